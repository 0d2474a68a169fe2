use Rattle.std.proofs.Common.{◌≡◌, Option, Some, subst, refl, sym, ◌∙◌}
use Rattle.ce_lines.specs.Asks.{IsAsked}
use Rattle.ce_lines.specs.declared.asked.Asked.{Asked}
use Rattle.ce_lines.specs.declared.asked.Asked.TheVariants.{Read as AskedRead, Quit as AskedQuit}
use Rattle.ce_desk.specs.DeskText.{refused_text}
use Rattle.ce_desk.specs.TalksInside.{streams, HasHeard}
use Rattle.ce_desk.proofs.Openings.{not_open, turns_few}
use Rattle.ce_desk.proofs.Talking.{hears_line, hears_end, said_reply, said_part, refuses, after_end}
use Rattle.ce_desk.proofs.Talking.{err_is}
use Rattle.ce_desk.specs.Desk.{early_desk}
use Rattle.ce_desk.proofs.opening.Slots.take_line.Goals as goal

pub returns-in_err-asked-clause-after : goal.returns-in_err-asked-clause-after
returns-in_err-asked-clause-after g c = λ start slots h talked.
    let t = c.args.talk.now in
    let rounds = c.args.settings.now.rounds in
    let exponent = c.args.settings.now.scale in
    let desk = early_desk slots in
    let u = c.hear.new.self in
    let e = c.hear.ensures in (
      slots,
      h,
      after_end rounds exponent start desk u.count
          (streams g.S.Source.left g.S.Source.faults g.O.Sink.taken g.O.Sink.faults u)
          c.from_residual.result c.in_err-asked.field-0.0
          (err_is c.from_residual.result c.in_err-asked.field-0.0 c.from_residual.ensures)
          (hears_end g.S.Source.left g.S.Source.faults g.O.Sink.taken g.O.Sink.faults t u rounds
          exponent start desk t.count talked
          e.given e.counted e.out c.in_err-asked.field-0.0 c.in_err-asked.ensures.ended),
    )

pub returns-then-quits-clause-after : goal.returns-then-quits-clause-after
returns-then-quits-clause-after g c = λ start slots h talked.
    let t = c.args.talk.now in
    let rounds = c.args.settings.now.rounds in
    let exponent = c.args.settings.now.scale in
    let desk = early_desk slots in
    let u = c.hear.new.self in
    let e = c.hear.ensures in
    let l = c.in_ok-asked.ensures.heard in
    let heard = hears_line g.S.Source.left g.S.Source.faults g.O.Sink.taken g.O.Sink.faults t u rounds
    exponent start desk t.count talked
    e.given e.counted e.out c.in_ok-asked.asked refl l in
    let is : c.in_ok-asked.asked ≡ Some AskedQuit = c.quits.ensures.yes c.if-quits.true in (
      slots,
      h,
      (
        u.count,
        subst (λ (x : Option Asked). HasHeard rounds exponent start x desk u.count
            (streams g.S.Source.left g.S.Source.faults g.O.Sink.taken g.O.Sink.faults u)) is heard,
      ),
    )

pub returns-in-Ok-clause-after : goal.returns-in-Ok-clause-after
returns-in-Ok-clause-after g c = λ start slots h talked.
    let t = c.args.talk.now in
    let rounds = c.args.settings.now.rounds in
    let exponent = c.args.settings.now.scale in
    let desk = early_desk slots in
    let u = c.hear.new.self in
    let e = c.hear.ensures in
    let l = c.in_ok-asked.ensures.heard in
    let heard = hears_line g.S.Source.left g.S.Source.faults g.O.Sink.taken g.O.Sink.faults t u rounds
    exponent start desk t.count talked
    e.given e.counted e.out c.in_ok-asked.asked refl l in
    let is : c.in_ok-asked.asked ≡ Some (AskedRead c.in-Ok.slot) = c.in-Ok.ensures.slot.0 in (
      slots,
      h,
      subst
          (λ (x : Option Asked). HasHeard rounds exponent start x desk u.count
          (streams g.S.Source.left g.S.Source.faults g.O.Sink.taken g.O.Sink.faults u)) is heard,
    )

pub returns-in_ok-refuse-in-Err-clause-after : goal.returns-in_ok-refuse-in-Err-clause-after
returns-in_ok-refuse-in-Err-clause-after g c = λ start slots h talked.
    let t = c.args.talk.now in
    let rounds = c.args.settings.now.rounds in
    let exponent = c.args.settings.now.scale in
    let desk = early_desk slots in
    let u = c.hear.new.self in
    let v = c.refuse.new.self in
    let e = c.hear.ensures in
    let l = c.in_ok-asked.ensures.heard in
    let heard = hears_line g.S.Source.left g.S.Source.faults g.O.Sink.taken g.O.Sink.faults t u rounds
    exponent start desk t.count talked
    e.given e.counted e.out c.in_ok-asked.asked refl l in (
      slots,
      h,
      said_reply g.S.Source.left g.S.Source.faults g.O.Sink.taken g.O.Sink.faults u v rounds exponent start
          desk desk c.in_ok-asked.asked
          (refused_text u.count c.in-Err.cause) heard
          (refuses c.in_ok-asked.asked desk u.count rounds exponent c.in-Err.cause
          (λ line asks. c.in-Err.ensures.cause desk line (h.slots_count ∙ sym c.count-slots.ensures)
          (not_open c.in_ok-asked.asked slots c.in_default.ensures.none) asks))
          c.refuse.ensures.lines c.refuse.ensures.counted c.refuse.ensures.count c.in_ok-refuse-in-Err.ensures.said,
    )

pub returns-in_err-refuse-in-Err-clause-after : goal.returns-in_err-refuse-in-Err-clause-after
returns-in_err-refuse-in-Err-clause-after g c = λ start slots h talked.
    let t = c.args.talk.now in
    let rounds = c.args.settings.now.rounds in
    let exponent = c.args.settings.now.scale in
    let desk = early_desk slots in
    let u = c.hear.new.self in
    let v = c.refuse.new.self in
    let e = c.hear.ensures in
    let l = c.in_ok-asked.ensures.heard in
    let heard = hears_line g.S.Source.left g.S.Source.faults g.O.Sink.taken g.O.Sink.faults t u rounds
    exponent start desk t.count talked
    e.given e.counted e.out c.in_ok-asked.asked refl l in
    let ended = said_part g.S.Source.left g.S.Source.faults g.O.Sink.taken g.O.Sink.faults u v rounds exponent start
    desk desk c.in_ok-asked.asked
    (refused_text u.count c.in-Err.cause) heard
    (refuses c.in_ok-asked.asked desk u.count rounds exponent c.in-Err.cause
    (λ line asks. c.in-Err.ensures.cause desk line (h.slots_count ∙ sym c.count-slots.ensures)
    (not_open c.in_ok-asked.asked slots c.in_default.ensures.none) asks))
    c.refuse.ensures.lines c.refuse.ensures.counted c.in_err-refuse-in-Err.field-0.0
    c.in_err-refuse-in-Err.ensures.cut c.in_err-refuse-in-Err.ensures.part in (
      slots,
      h,
      after_end rounds exponent start desk v.count
          (streams g.S.Source.left g.S.Source.faults g.O.Sink.taken g.O.Sink.faults v)
          c.from_residual-in_err-refuse-in-Err.result c.in_err-refuse-in-Err.field-0.0
          (err_is c.from_residual-in_err-refuse-in-Err.result c.in_err-refuse-in-Err.field-0.0
          c.from_residual-in_err-refuse-in-Err.ensures) ended,
    )

pub answer_open-requires-clause-turns : goal.answer_open-requires-clause-turns
answer_open-requires-clause-turns g c =
    let l = c.in_ok-asked.ensures.heard in
    turns_few l.line _ c.in-Some.turns (subst (IsAsked l.line) c.in-Some.ensures.some l.asks)

pub returns-in_err-answer_open-clause-after : goal.returns-in_err-answer_open-clause-after
returns-in_err-answer_open-clause-after g c = λ start slots h talked.
    let t = c.args.talk.now in
    let rounds = c.args.settings.now.rounds in
    let exponent = c.args.settings.now.scale in
    let desk = early_desk slots in
    let u = c.hear.new.self in
    let v = c.answer_open.new.talk in
    let e = c.hear.ensures in
    let l = c.in_ok-asked.ensures.heard in
    let first = hears_line g.S.Source.left g.S.Source.faults g.O.Sink.taken g.O.Sink.faults t u rounds
    exponent start desk t.count talked
    e.given e.counted e.out c.in_ok-asked.asked refl l in
    let heard = subst
    (λ (x : Option Asked). HasHeard rounds exponent start x desk u.count
    (streams g.S.Source.left g.S.Source.faults g.O.Sink.taken g.O.Sink.faults u))
    c.in-Some.ensures.some first in
    let a = c.in_err-answer_open.ensures.answered start slots h heard in (
      a.0,
      a.1,
      after_end rounds exponent start (early_desk a.0) v.count
          (streams g.S.Source.left g.S.Source.faults g.O.Sink.taken g.O.Sink.faults v)
          c.from_residual-in_err-answer_open.result c.in_err-answer_open.field-0.0
          (err_is c.from_residual-in_err-answer_open.result c.in_err-answer_open.field-0.0
          c.from_residual-in_err-answer_open.ensures) a.3,
    )

pub returns-in-Some-clause-after : goal.returns-in-Some-clause-after
returns-in-Some-clause-after g c = λ start slots h talked.
    let t = c.args.talk.now in
    let rounds = c.args.settings.now.rounds in
    let exponent = c.args.settings.now.scale in
    let desk = early_desk slots in
    let u = c.hear.new.self in
    let v = c.answer_open.new.talk in
    let e = c.hear.ensures in
    let l = c.in_ok-asked.ensures.heard in
    let first = hears_line g.S.Source.left g.S.Source.faults g.O.Sink.taken g.O.Sink.faults t u rounds
    exponent start desk t.count talked
    e.given e.counted e.out c.in_ok-asked.asked refl l in
    let heard = subst
    (λ (x : Option Asked). HasHeard rounds exponent start x desk u.count
    (streams g.S.Source.left g.S.Source.faults g.O.Sink.taken g.O.Sink.faults u))
    c.in-Some.ensures.some first in
    let a = c.in_ok-answer_open.ensures.answered start slots h heard in
    (a.0, a.1, a.2)
