use Rattle.std.proofs.Common.{◌≡◌, ℕ, List, Some, refl, subst}
use Rattle.std.specs.Prelude.{IfOk}
use Rattle.std.specs.Result.{IfErr}
use Rattle.ce_lines.specs.declared.asked.Asked.TheVariants.{Read as AskedRead}
use Rattle.ce_port.specs.Sink.{GrewBy}
use Rattle.ce_port.specs.WriteAll.{GrewByPrefix}
use Rattle.ce_desk.specs.Desk.{Desk, early_desk}
use Rattle.ce_desk.specs.DeskText.{read_text}
use Rattle.ce_desk.specs.declared.talk.Fault.TheVariants.{NoMemory}
use Rattle.ce_desk.specs.declared.talk.TalkEnd.TheVariants.{Fault as Failed}
use Rattle.ce_desk.proofs.Reading.{desk_after, firsts_after, turns_after, reply_after, no_slot}
use Rattle.ce_desk.proofs.Talking.{said_any, said_none, err_is}
use Rattle.ce_desk.proofs.session.answer_read.Goals as goal

pub load_bounds-interval-requires : goal.load_bounds-interval-requires
load_bounds-interval-requires g c =
    let h = c.requires.firsts in
    (h.1.each c.args.slot c.index-cases-slot.result no_slot c.index-firsts-slot.result c.requires.there).sits

pub returns-in_err-line-clause-answered : goal.returns-in_err-line-clause-answered
returns-in_err-line-clause-answered g c = λ rounds exponent start desk h heard.
    let t = c.args.talk.now in
    let j = c.args.slot in
    let e = c.load_bounds-interval.ensures in
    let i = c.load_bounds-interval.result in
    let x = c.index-cases-slot.result in
    let f = c.index-firsts-slot.result in
    let seat = c.load_bounds-interval.new.seat in
    let after = desk_after c.args.cases.now desk c.args.firsts.now j x f i seat h c.requires.there in
    let said = said_none g.S.Source.left g.S.Source.faults g.O.Sink.taken g.O.Sink.faults t t rounds exponent start
    desk after (Some (AskedRead j))
    (read_text j i) heard
    (reply_after c.args.cases.now desk c.args.firsts.now j x f i seat h c.requires.there rounds
    exponent t.count c.requires.few
    e.encloses e.inside_initial e.inside_seen)
    c.from_residual.result (err_is c.from_residual.result (Failed NoMemory) c.from_residual.ensures) in (
      after,
      refl,
      firsts_after c.args.cases.now desk c.args.firsts.now j x f i seat h c.requires.there
          e.sits e.view e.inside_seen,
      turns_after c.args.cases.now desk c.args.firsts.now j x f i seat h c.requires.there,
      said.0,
      said.1,
    )

pub returns-clause-answered : goal.returns-clause-answered
returns-clause-answered g c = λ rounds exponent start desk h heard.
    let t = c.args.talk.now in
    let u = c.say.new.self in
    let j = c.args.slot in
    let e = c.load_bounds-interval.ensures in
    let i = c.load_bounds-interval.result in
    let x = c.index-cases-slot.result in
    let f = c.index-firsts-slot.result in
    let seat = c.load_bounds-interval.new.seat in
    let before = g.O.Sink.taken t.out in
    let now = g.O.Sink.taken u.out in
    let after = desk_after c.args.cases.now desk c.args.firsts.now j x f i seat h c.requires.there in
    let same : c.deref.result.now ≡ read_text j i = (let p = c.deref.ensures in let q = c.in_ok-line.ensures in cc) in
    let said = said_any g.S.Source.left g.S.Source.faults g.O.Sink.taken g.O.Sink.faults t u rounds exponent start
    desk after (Some (AskedRead j))
    (read_text j i) heard
    (reply_after c.args.cases.now desk c.args.firsts.now j x f i seat h c.requires.there rounds
    exponent t.count c.requires.few
    e.encloses e.inside_initial e.inside_seen)
    c.say.ensures.lines c.say.ensures.counted c.say.ensures.count c.say.result
    (subst (λ (l : List ℕ). IfOk c.say.result (λ _. GrewBy before now l)) same c.say.ensures.said)
    (subst (λ (l : List ℕ). IfErr c.say.result (λ _. GrewByPrefix before now l)) same c.say.ensures.part)
    c.say.ensures.cut in (
      after,
      refl,
      firsts_after c.args.cases.now desk c.args.firsts.now j x f i seat h c.requires.there
          e.sits e.view e.inside_seen,
      turns_after c.args.cases.now desk c.args.firsts.now j x f i seat h c.requires.there,
      said.0,
      said.1,
    )

pub returns-in_err-line-clause-firsts : goal.returns-in_err-line-clause-firsts
returns-in_err-line-clause-firsts g c = λ slots h.
    let desk : Desk = early_desk slots in
    let j = c.args.slot in
    let e = c.load_bounds-interval.ensures in
    let i = c.load_bounds-interval.result in
    let x = c.index-cases-slot.result in
    let f = c.index-firsts-slot.result in
    let seat = c.load_bounds-interval.new.seat in
    let after = desk_after c.args.cases.now desk c.args.firsts.now j x f i seat h c.requires.there in (
      after.slots,
      firsts_after c.args.cases.now desk c.args.firsts.now j x f i seat h c.requires.there
          e.sits e.view e.inside_seen,
    )

pub returns-clause-firsts : goal.returns-clause-firsts
returns-clause-firsts g c = λ slots h.
    let desk : Desk = early_desk slots in
    let j = c.args.slot in
    let e = c.load_bounds-interval.ensures in
    let i = c.load_bounds-interval.result in
    let x = c.index-cases-slot.result in
    let f = c.index-firsts-slot.result in
    let seat = c.load_bounds-interval.new.seat in
    let after = desk_after c.args.cases.now desk c.args.firsts.now j x f i seat h c.requires.there in (
      after.slots,
      firsts_after c.args.cases.now desk c.args.firsts.now j x f i seat h c.requires.there
          e.sits e.view e.inside_seen,
    )
