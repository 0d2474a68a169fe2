use Rattle.ce_desk.specs.TalksInside.{streams}
use Rattle.ce_desk.proofs.Talking.{next_end, err_is}
use Rattle.ce_desk.proofs.session.answer_and_hear.Goals as goal

pub returns-in_err-answer_read-clause-next : goal.returns-in_err-answer_read-clause-next
returns-in_err-answer_read-clause-next g c = λ rounds exponent start desk h heard.
    let a = c.in_err-answer_read.ensures.answered rounds exponent start desk h heard in
    let u = c.answer_read.new.talk in (
      a.0,
      a.2,
      a.3,
      next_end rounds exponent start a.0 u.count
          (streams g.S.Source.left g.S.Source.faults g.O.Sink.taken g.O.Sink.faults u)
          c.from_residual.result c.in_err-answer_read.field-0.0
          (err_is c.from_residual.result c.in_err-answer_read.field-0.0 c.from_residual.ensures) a.5,
    )

pub returns-clause-next : goal.returns-clause-next
returns-clause-next g c = λ rounds exponent start desk h heard.
    let a = c.in_ok-answer_read.ensures.answered rounds exponent start desk h heard in
    (a.0, a.2, a.3, c.next_read.ensures.next rounds exponent start a.0 a.1 a.2.slots_count a.4)
