use Rattle.std.specs.Vec.Iter.{into_iter_items}
use Rattle.std.proofs.lemmas.Iterator.{items_from_collect}
use Rattle.std.proofs.lemmas.Iterator.Adapters.{YieldsList-from_skip, YieldsList-from_vec}
use Rattle.core_entropy.proofs.words.after_name.Goals as goal

pub returns : goal.returns
returns c =
    let long = c.args.all.rest.ok.0 in
    items_from_collect _ c.collect.ensures.ran
    (YieldsList-from_skip 1 (YieldsList-from_vec (into_iter_items c.args.all) (cc) (cc)) c.skip.ensures.count)
