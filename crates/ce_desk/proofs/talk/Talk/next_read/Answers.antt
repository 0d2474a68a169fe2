use Rattle.std.proofs.Common.{ℕ, Option, Ok, subst, ap, ◌∙◌}
use Rattle.std.specs.Prelude.{Result}
use Rattle.ce_desk.specs.TalksInside.{streams, IsAfterLine}
use Rattle.ce_desk.specs.declared.talk.TalkEnd.{TalkEnd}
use Rattle.ce_desk.proofs.talk.Talk.next_read.Goals as goal

pub returns-in-Some-clause-next : goal.returns-in-Some-clause-next
returns-in-Some-clause-next g c = λ rounds exponent start desk late count talked.
    let u = c.take_line.new.self in
    subst (λ (r : Result (Option ℕ) TalkEnd). IsAfterLine rounds exponent start r desk u.count
    (streams g.S.Source.left g.S.Source.faults g.O.Sink.taken g.O.Sink.faults u))
    (c.in_ok-slot.was ∙ ap (λ (x : Option ℕ). Ok x) c.in-Some.is)
    (c.take_line.ensures.after rounds exponent start desk late count
    (c.loop-slot.invariant.talked rounds exponent start desk late count talked))
