use Rattle.std.proofs.Common.{◌≡◌, ◌<◌, ◌+◌, ◌*◌, ◌^◌, ◌∙◌, length, map, set, sym, ap, subst, arith}
use Rattle.std.proofs.lemmas.List.{length-map, length-set}
use Rattle.ce_core.specs.FieldsInside.{shared_of, kept_of}
use Rattle.ce_core.specs.Inside.{state_of}
use Rattle.ce_core.specs.Machine.{Machine, after_event, answer_to}
use Rattle.ce_core.specs.Runs.{HasAskedAtMost}
use Rattle.ce_core.specs.Sound.{IsSound}
use Rattle.ce_core.specs.State.{CoreState}
use Rattle.ce_core.proofs.Asked.{asked_after}
use Rattle.ce_core.proofs.Events.{event_keeps}
use Rattle.ce_core.proofs.Steps.{machine_of, kept_at, bounds_in_range, one_act}
use Rattle.ce_core.proofs.core_machine.Core.step.Goals as goal

pub carried-number-requires-clause-bounds : goal.carried-number-requires-clause-bounds
carried-number-requires-clause-bounds c =
    let f = c.self.inside in
    let k = c.actor.result in
    let there : k < length f.actors.items = omega (arith, c.actor.ensures, c.requires.actor, c.self.invariant.actors) in
    let is = kept_at f.shared f.actors.items k c.index_mut-actor.result.now there c.index_mut-actor.ensures.value in
    bounds_in_range f.rows.now (state_of f).machine k c.index_mut-actor.result.now c.self.invariant.sound
    (omega (arith, there, length-map f.actors.items kept_of)) is

pub invariant_of-self : goal.invariant_of-self
invariant_of-self c =
    let f = c.self.inside in
    let k = c.actor.result in
    let there : k < length f.actors.items = omega (arith, c.actor.ensures, c.requires.actor, c.self.invariant.actors) in
    let one =
    one_act f c.args.event c.apply-answer.new.self k c.index_mut-actor.result.now c.note.new.self
    c.carried-number.result c.apply-answer.result c.act-act.result c.act-act.ensures c.actor.ensures there
    c.index_mut-actor.ensures.value c.carried-number.ensures c.apply-answer.ensures.shared
    c.apply-answer.ensures.answer c.note.ensures in
    let sound = IsSound f.rows.now (2 ^ f.rows.now.exponent) (2 * 2 ^ f.rows.now.exponent) in
    let kept =
    event_keeps f.rows.now c.self.invariant.rows f.ranks.now c.self.invariant.ranking (2 ^ f.rows.now.exponent)
    (2 * 2 ^ f.rows.now.exponent) (state_of f).machine c.self.invariant.sound c.args.event
    (omega (arith, there, c.actor.ensures, length-map f.actors.items kept_of)) in
    record {
      rows = c.self.invariant.rows;
      ranking = c.self.invariant.ranking;
      actors = length-set f.actors.items k c.note.new.self ∙ c.self.invariant.actors;
      scratch = c.self.invariant.scratch;
      sound = subst sound (sym one.machine) kept;
    }

pub returns : goal.returns
returns c =
    let f = c.self.inside in
    let k = c.actor.result in
    let there : k < length f.actors.items = omega (arith, c.actor.ensures, c.requires.actor, c.self.invariant.actors) in
    let one =
    one_act f c.args.event c.apply-answer.new.self k c.index_mut-actor.result.now c.note.new.self
    c.carried-number.result c.apply-answer.result c.act-act.result c.act-act.ensures c.actor.ensures there
    c.index_mut-actor.ensures.value c.carried-number.ensures c.apply-answer.ensures.shared
    c.apply-answer.ensures.answer c.note.ensures in
    let state : Machine → CoreState = λ m. record { rows = f.rows.now; ranks = f.ranks.now; machine = m } in
    let new : CoreState =
    state (machine_of (shared_of c.apply-answer.new.self) (map kept_of (set f.actors.items k c.note.new.self))) in
    let P : CoreState → Type 0 =
    λ st. new ≡ record st { machine = after_event st.rows st.ranks st.machine c.args.event } in
    let Q : CoreState → Type 0 = λ st. c.apply-answer.result ≡ answer_to st.rows st.ranks st.machine c.args.event in
    record {
      machine = subst P c.self.view_is (ap state one.machine);
      answer = subst Q c.self.view_is one.answer_is;
      asked = λ count h.
          let before = subst (λ (st : CoreState). HasAskedAtMost count st.machine) (sym c.self.view_is) h in
          subst (HasAskedAtMost (count + 1)) (sym one.machine)
          (asked_after f.rows.now f.ranks.now count (state_of f).machine c.args.event before);
    }
