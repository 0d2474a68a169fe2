use Rattle.std.proofs.Common.{refl}
use Rattle.ce_atlas.proofs.Certified.{both_certified}
use Rattle.core_entropy.specs.Atlas.{still}
use Rattle.core_entropy.proofs.CompareTask.{are_compared}
use Rattle.core_entropy.proofs.commands.compare.compared.Goals as goal

pub relate-requires : goal.relate-requires
relate-requires g c =
    let settings = still c.args.rounds c.args.scale in
    both_certified settings c.args.a c.args.b c.in_ok-first.first c.in_ok-second.second
    c.exponent-exponent.ensures.known c.in_ok-first.ensures.answer c.in_ok-second.ensures.answer

pub returns-clause-relation : goal.returns-clause-relation
returns-clause-relation g c =
    let settings = still c.args.rounds c.args.scale in
    let r = c.relate.ensures in
    are_compared settings refl c.exponent-exponent.ensures.known c.args.a c.args.b c.in_ok-first.first
    c.in_ok-second.second c.in_ok-first.ensures.answer c.in_ok-second.ensures.answer
    c.relate.result r.equal r.below r.above
