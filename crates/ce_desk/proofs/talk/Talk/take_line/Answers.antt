use Rattle.std.proofs.Common.{◌≡◌, Option, Some, subst, refl}
use Rattle.ce_lines.specs.declared.asked.Asked.{Asked}
use Rattle.ce_lines.specs.declared.asked.Asked.TheVariants.{Read as AskedRead, Quit as AskedQuit}
use Rattle.ce_desk.specs.DeskText.{refused_text}
use Rattle.ce_desk.specs.TalksInside.{streams, HasHeard}
use Rattle.ce_desk.proofs.Talking.{hears_line, hears_end, said_reply, said_part, refuses, late_if_open, after_end}
use Rattle.ce_desk.proofs.Talking.{err_is}
use Rattle.ce_desk.proofs.talk.Talk.take_line.Goals as goal

pub returns-in_err-asked-clause-after : goal.returns-in_err-asked-clause-after
returns-in_err-asked-clause-after g c = λ rounds exponent start desk late count talked.
    let t = c.args.self.now in
    let u = c.hear.new.self in
    let e = c.hear.ensures in
    after_end rounds exponent start desk u.count
    (streams g.S.Source.left g.S.Source.faults g.O.Sink.taken g.O.Sink.faults u)
    c.from_residual.result c.in_err-asked.field-0.0
    (err_is c.from_residual.result c.in_err-asked.field-0.0 c.from_residual.ensures)
    (hears_end g.S.Source.left g.S.Source.faults g.O.Sink.taken g.O.Sink.faults t u rounds
    exponent start desk t.count talked
    e.given e.counted e.out c.in_err-asked.field-0.0 c.in_err-asked.ensures.ended)

pub returns-then-quits-clause-after : goal.returns-then-quits-clause-after
returns-then-quits-clause-after g c = λ rounds exponent start desk late count talked.
    let t = c.args.self.now in
    let u = c.hear.new.self in
    let e = c.hear.ensures in
    let h = c.in_ok-asked.ensures.heard in
    let heard = hears_line g.S.Source.left g.S.Source.faults g.O.Sink.taken g.O.Sink.faults t u rounds
    exponent start desk t.count talked
    e.given e.counted e.out c.in_ok-asked.asked refl h in
    let is : c.in_ok-asked.asked ≡ Some AskedQuit = c.quits.ensures.yes c.if-quits.true in (
      u.count,
      subst
          (λ (x : Option Asked). HasHeard rounds exponent start x desk u.count
          (streams g.S.Source.left g.S.Source.faults g.O.Sink.taken g.O.Sink.faults u)) is heard,
    )

pub returns-in-Ok-clause-after : goal.returns-in-Ok-clause-after
returns-in-Ok-clause-after g c = λ rounds exponent start desk late count talked.
    let t = c.args.self.now in
    let u = c.hear.new.self in
    let e = c.hear.ensures in
    let h = c.in_ok-asked.ensures.heard in
    let heard = hears_line g.S.Source.left g.S.Source.faults g.O.Sink.taken g.O.Sink.faults t u rounds
    exponent start desk t.count talked
    e.given e.counted e.out c.in_ok-asked.asked refl h in
    let is : c.in_ok-asked.asked ≡ Some (AskedRead c.in-Ok.slot) = c.in-Ok.ensures.slot.0 in
    subst (λ (x : Option Asked). HasHeard rounds exponent start x desk u.count
    (streams g.S.Source.left g.S.Source.faults g.O.Sink.taken g.O.Sink.faults u)) is heard

pub returns-in_ok-refuse-in-Err-clause-after : goal.returns-in_ok-refuse-in-Err-clause-after
returns-in_ok-refuse-in-Err-clause-after g c = λ rounds exponent start desk late count talked.
    let t = c.args.self.now in
    let u = c.hear.new.self in
    let v = c.refuse.new.self in
    let e = c.hear.ensures in
    let h = c.in_ok-asked.ensures.heard in
    let heard = hears_line g.S.Source.left g.S.Source.faults g.O.Sink.taken g.O.Sink.faults t u rounds
    exponent start desk t.count talked
    e.given e.counted e.out c.in_ok-asked.asked refl h in
    said_reply g.S.Source.left g.S.Source.faults g.O.Sink.taken g.O.Sink.faults u v rounds exponent start
    desk desk c.in_ok-asked.asked
    (refused_text u.count c.in-Err.cause) heard
    (refuses c.in_ok-asked.asked desk u.count rounds exponent c.in-Err.cause
    (λ line asks. c.in-Err.ensures.cause desk line count (late_if_open c.in_ok-asked.asked desk late) asks))
    c.refuse.ensures.lines c.refuse.ensures.counted c.refuse.ensures.count c.in_ok-refuse-in-Err.ensures.said

pub returns-in_err-refuse-in-Err-clause-after : goal.returns-in_err-refuse-in-Err-clause-after
returns-in_err-refuse-in-Err-clause-after g c = λ rounds exponent start desk late count talked.
    let t = c.args.self.now in
    let u = c.hear.new.self in
    let v = c.refuse.new.self in
    let e = c.hear.ensures in
    let h = c.in_ok-asked.ensures.heard in
    let heard = hears_line g.S.Source.left g.S.Source.faults g.O.Sink.taken g.O.Sink.faults t u rounds
    exponent start desk t.count talked
    e.given e.counted e.out c.in_ok-asked.asked refl h in
    let ended = said_part g.S.Source.left g.S.Source.faults g.O.Sink.taken g.O.Sink.faults u v rounds exponent start
    desk desk c.in_ok-asked.asked
    (refused_text u.count c.in-Err.cause) heard
    (refuses c.in_ok-asked.asked desk u.count rounds exponent c.in-Err.cause
    (λ line asks. c.in-Err.ensures.cause desk line count (late_if_open c.in_ok-asked.asked desk late) asks))
    c.refuse.ensures.lines c.refuse.ensures.counted c.in_err-refuse-in-Err.field-0.0
    c.in_err-refuse-in-Err.ensures.cut c.in_err-refuse-in-Err.ensures.part in
    after_end rounds exponent start desk v.count
    (streams g.S.Source.left g.S.Source.faults g.O.Sink.taken g.O.Sink.faults v)
    c.from_residual-in_err-refuse-in-Err.result c.in_err-refuse-in-Err.field-0.0
    (err_is c.from_residual-in_err-refuse-in-Err.result c.in_err-refuse-in-Err.field-0.0
    c.from_residual-in_err-refuse-in-Err.ensures) ended
