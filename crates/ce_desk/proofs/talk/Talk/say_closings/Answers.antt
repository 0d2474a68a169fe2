use Rattle.std.proofs.Common.{◌≡◌, ◌∙◌, subst, arith}
use Rattle.ce_port.specs.Sink.{GrewBy}
use Rattle.ce_port.specs.WriteAll.{GrewByPrefix}
use Rattle.ce_desk.specs.DeskText.{closed_text}
use Rattle.ce_desk.proofs.Writing.{lines_stop, line_said, line_part, if_err, closing_at}
use Rattle.ce_desk.proofs.talk.Talk.say_closings.Goals as goal

pub returns-in_err-line-clause-part : goal.returns-in_err-line-clause-part
returns-in_err-line-clause-part g c =
    if_err c.from_residual.result (lines_stop c.args.closings.now c.loop-slot.slot (g.O.Sink.taken c.args.self.now.out)
    (g.O.Sink.taken c.loop-slot.self.out) c.loop-slot.invariant.said)

pub returns-in_err-say-clause-part : goal.returns-in_err-say-clause-part
returns-in_err-say-clause-part g c =
    let closings = c.args.closings.now in
    let i = c.loop-slot.slot in
    let before = g.O.Sink.taken c.loop-slot.self.out in
    let after = g.O.Sink.taken c.say.new.self.out in
    let same : c.deref.result.now ≡ closed_text i (closing_at closings i) =
    (let a = c.deref.ensures in let b = c.in_ok-line.ensures in cc) in
    if_err c.from_residual-in_err-say.result
    (line_part closings i (g.O.Sink.taken c.args.self.now.out) before c.loop-slot.invariant.said
    after _ c.loop-slot-test.true
    (subst (GrewByPrefix before after) same c.in_err-say.ensures.part))

pub loop-slot-preserved : goal.loop-slot-preserved
loop-slot-preserved g c =
    let closings = c.args.closings.now in
    let i = c.loop-slot.slot in
    let before = g.O.Sink.taken c.loop-slot.self.out in
    let after = g.O.Sink.taken c.say.new.self.out in
    let same : c.deref.result.now ≡ closed_text i (closing_at closings i) =
    (let a = c.deref.ensures in let b = c.in_ok-line.ensures in cc) in
    record {
      said = line_said closings i (g.O.Sink.taken c.args.self.now.out) before c.loop-slot.invariant.said
          after _ c.loop-slot-test.true
          (subst (GrewBy before after) same c.in_ok-say.ensures.said);
      counted = omega (arith, c.loop-slot.invariant.counted, c.say.ensures.counted);
      lines = c.say.ensures.lines ∙ c.loop-slot.invariant.lines;
    }
