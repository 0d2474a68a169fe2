use Rattle.std.proofs.Common.{◌≡◌, ◌++◌, ◌∷◌, [], ℕ, List, Some, length, sym, ◌∙◌, subst}
use Rattle.std.specs.Prelude.{IfOk}
use Rattle.std.specs.Result.{IfErr}
use Rattle.ce_lines.specs.declared.asked.Asked.TheVariants.{Open}
use Rattle.ce_port.specs.Sink.{GrewBy}
use Rattle.ce_port.specs.WriteAll.{GrewByPrefix}
use Rattle.ce_desk.specs.CasesInside.{AreOpenSlots}
use Rattle.ce_desk.specs.declared.opening.Slots.{Slots}
use Rattle.ce_desk.specs.DeskText.{opened_text, refused_text}
use Rattle.ce_desk.specs.declared.talk.Fault.TheVariants.{NoMemory}
use Rattle.ce_desk.specs.declared.talk.TalkEnd.TheVariants.{Fault as Failed}
use Rattle.ce_desk.proofs.Openings.{opens_reply, open_cause}
use Rattle.ce_desk.proofs.Talking.{said_any, said_none, err_is, refuses}
use Rattle.ce_desk.specs.Desk.{early_desk}
use Rattle.ce_desk.proofs.opening.Slots.answer_open.Goals as goal

pub returns-in-Err-clause-answered : goal.returns-in-Err-clause-answered
returns-in-Err-clause-answered g c = λ start slots h heard.
    let t = c.args.talk.now in
    let u = c.refuse.new.self in
    let asked = Some (Open c.args.angle c.args.turns) in
    let said = said_any g.S.Source.left g.S.Source.faults g.O.Sink.taken g.O.Sink.faults t u c.args.settings.now.rounds
    c.args.settings.now.scale start
    (early_desk slots) (early_desk slots) asked (refused_text t.count c.in-Err.cause) heard
    (refuses asked (early_desk slots) t.count c.args.settings.now.rounds c.args.settings.now.scale c.in-Err.cause
    (open_cause c.args.angle c.args.turns (length c.args.self.now.cases.items) slots c.in-Err.cause
    c.in-Err.ensures.cause h.slots_count))
    c.refuse.ensures.lines c.refuse.ensures.counted c.refuse.ensures.count c.refuse.result c.refuse.ensures.said
    c.refuse.ensures.part c.refuse.ensures.cut in (
      slots,
      subst (λ (s : Slots). AreOpenSlots s.cases.items s.firsts.items s.workers.items slots)
          (sym c.in-Err.ensures.same) h,
      said.0,
      said.1,
    )

pub returns-in_err-line-in-Ok-clause-answered : goal.returns-in_err-line-in-Ok-clause-answered
returns-in_err-line-in-Ok-clause-answered g c = λ start slots h heard.
    let t = c.args.talk.now in
    let o = c.in-Ok.ensures.opened in
    let after = slots ++ o.slot ∷ [] in
    let said = said_none g.S.Source.left g.S.Source.faults g.O.Sink.taken g.O.Sink.faults t t
    c.args.settings.now.rounds c.args.settings.now.scale start
    (early_desk slots) (early_desk after) (Some (Open c.args.angle c.args.turns))
    (opened_text (length slots) o.slot.angle o.slot.run.initial) heard
    (opens_reply c.args.settings.now c.args.angle c.args.turns t.count c.args.self.now c.open.new.self _ slots o
    h.slots_count c.open.ensures.room)
    c.from_residual.result (err_is c.from_residual.result (Failed NoMemory) c.from_residual.ensures) in
    (after, o.behind slots h, said.0, said.1)

pub returns-in_ok-line-in-Ok-clause-answered : goal.returns-in_ok-line-in-Ok-clause-answered
returns-in_ok-line-in-Ok-clause-answered g c = λ start slots h heard.
    let t = c.args.talk.now in
    let u = c.say.new.self in
    let o = c.in-Ok.ensures.opened in
    let after = slots ++ o.slot ∷ [] in
    let before = g.O.Sink.taken t.out in
    let now = g.O.Sink.taken u.out in
    let spelled = c.deref.ensures ∙ c.in_ok-line-in-Ok.ensures in
    let number : c.count-slot.result ≡ length slots = c.count-slot.ensures ∙ sym h.slots_count in
    let same : c.deref.result.now ≡ opened_text (length slots) o.slot.angle o.slot.run.initial =
    spelled ∙ (λ i. opened_text (number i) (o.angle i) (o.initial i)) in
    let said = said_any g.S.Source.left g.S.Source.faults g.O.Sink.taken g.O.Sink.faults t u c.args.settings.now.rounds
    c.args.settings.now.scale start
    (early_desk slots) (early_desk after) (Some (Open c.args.angle c.args.turns))
    (opened_text (length slots) o.slot.angle o.slot.run.initial) heard
    (opens_reply c.args.settings.now c.args.angle c.args.turns t.count c.args.self.now c.open.new.self _ slots o
    h.slots_count c.open.ensures.room)
    c.say.ensures.lines c.say.ensures.counted c.say.ensures.count c.say.result
    (subst (λ (l : List ℕ). IfOk c.say.result (λ _. GrewBy before now l)) same c.say.ensures.said)
    (subst (λ (l : List ℕ). IfErr c.say.result (λ _. GrewByPrefix before now l)) same c.say.ensures.part)
    c.say.ensures.cut in
    (after, o.behind slots h, said.0, said.1)
