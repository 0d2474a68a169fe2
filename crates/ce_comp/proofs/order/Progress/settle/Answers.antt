use Rattle.std.proofs.Common.{◌-◌, length}
use Rattle.std.proofs.lemmas.Result.{on_ok_weaker}
use Rattle.ce_comp.proofs.Settling.{changed_but}
use Rattle.ce_comp.proofs.order.Progress.settle.Goals as goal

pub returns-clause-ready : goal.returns-clause-ready
returns-clause-ready c =
    let s = c.args.self.now in
    on_ok_weaker c.see.result (λ seen. seen (length c.args.first.now) c.requires.within
    (changed_but c.args.first.now s.numbers.items s.left.items s.ready c.args.source
    (c.index_mut.result.now - 1) c.requires.within c.requires.some c.requires.ready)) c.see.ensures.ready
