use Rattle.std.proofs.Common.{arith}
use Rattle.ce_comp.proofs.Settling.{ready_with, ready_without}
use Rattle.ce_comp.proofs.order.Progress.see.Goals as goal

pub returns-in_ok-push-clause-ready : goal.returns-in_ok-push-clause-ready
returns-in_ok-push-clause-ready c =
    let each = c.requires.each in
    λ upto within but. ready_with c.args.first.now c.args.self.now.numbers.items c.args.self.now.left.items
    c.args.self.now.ready upto c.args.component c.index.result.now (omega arith) c.index.ensures but
    c.push.new.self within c.requires.open_yet c.if-index-eq0.true c.in_ok-push.ensures

pub returns-else-index-eq0-clause-ready : goal.returns-else-index-eq0-clause-ready
returns-else-index-eq0-clause-ready c =
    let each = c.requires.each in
    λ upto within but. ready_without c.args.first.now c.args.self.now.numbers.items c.args.self.now.left.items
    c.args.self.now.ready upto c.args.component c.index.result.now (omega arith) c.index.ensures but
    c.if-index-eq0.false
