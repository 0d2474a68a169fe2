use Rattle.std.proofs.Common.{ℕ, subst}
use Rattle.std.specs.Prelude.{Result}
use Rattle.ce_desk.specs.TalksInside.{streams, IsNext}
use Rattle.ce_desk.specs.declared.talk.TalkEnd.{TalkEnd}
use Rattle.ce_desk.proofs.Sessions.{turns_on}
use Rattle.ce_desk.proofs.session.answer_all.Goals as goal

pub loop-next-preserved : goal.loop-next-preserved
loop-next-preserved g c =
    let before = c.loop-next.invariant in
    let e = c.answer_and_hear-next.ensures in
    let t = c.loop-next.talk in
    record {
      talk = e.talk;
      firsts = e.firsts before.firsts.0 before.firsts.1;
      there = e.there;
      talked = λ rounds exponent start desk h first.
          let a = before.talked rounds exponent start desk h first in
          let heard = subst (λ (r : Result ℕ TalkEnd). IsNext rounds exponent start r a.0 t.count
          (streams g.S.Source.left g.S.Source.faults g.O.Sink.taken g.O.Sink.faults t)) c.in-Ok.is a.3 in
          let n = e.next rounds exponent start a.0 a.1 heard in
          (n.0, n.1, turns_on desk.slots a.0.slots n.0.slots a.2 n.2, n.3);
    }
