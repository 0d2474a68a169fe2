-- The greatest number of rescalings that was asked for rises by at most one with each event.
use Rattle.std.proofs.Common.{◌≤◌, ◌+◌, ℕ, List, [], length, get_or, sym, subst, inl, inr, arith}
use Rattle.std.specs.Prelude.{All}
use Rattle.std.proofs.lemmas.Bool.{cases_lt}
use Rattle.std.proofs.lemmas.List.{get_or_past}
use Rattle.std.proofs.lemmas.List.Elements.{All-set, All-get_or, All-weaker, All-replicate}
use Rattle.ce_rows.specs.Events.{Shared, actor_of, act_of, after_act, answer_of}
use Rattle.ce_rows.specs.declared.act.Act.{Act}
use Rattle.ce_rows.specs.declared.act.Act.TheVariants.{LoadsShift, Asks}
use Rattle.ce_rows.specs.Rows.{ScaledRows}
use Rattle.ce_rows.specs.declared.event.Event.{Event}
use Rattle.ce_rows.specs.Actors.{ActorState, actor_at_start, after_answer}
use Rattle.ce_core.specs.Machine.{Machine, kept_by, carried, answer_to, after_event, machine_at_start}
use Rattle.ce_core.specs.Runs.{HasAskedAtMost}

-- an actor that is not there has seen nothing asked for
seen_by : (count : ℕ) (actors : List ActorState) (i : ℕ) → All (λ (own : ActorState). own.shift ≤ count) actors
    → (get_or actors i (actor_at_start [] 0 0)).shift ≤ count
seen_by count actors i h =
    let P : ActorState → Type 0 = λ own. own.shift ≤ count in
    let none : ActorState = actor_at_start [] 0 0 in
    elim (cases_lt i (length actors)) [
      | inl within ↦ All-get_or P actors i none within h
      | inr past ↦ subst P (sym (get_or_past actors i none past)) (omega arith)
    ]

module _ (rows : ScaledRows) (ranks : List ℕ) (count : ℕ) where
  word_after : (s : Shared) (own : ActorState) (act : Act) → s.shift ≤ count → own.shift ≤ count
      → (after_act s act (carried rows ranks own act)).shift ≤ count + 1
  word_after s own Asks word seen = omega arith
  word_after s own _ word seen = omega arith

  seen_after : (s : Shared) (own : ActorState) (act : Act) → s.shift ≤ count → own.shift ≤ count
      → (after_answer own act (answer_of s act (carried rows ranks own act))).shift ≤ count + 1
  seen_after s own LoadsShift word seen = omega arith
  seen_after s own _ word seen = omega arith

  pub asked_after : (m : Machine) (event : Event) → HasAskedAtMost count m
      → HasAskedAtMost (count + 1) (after_event rows ranks m event)
  unfolding after_event answer_to
  asked_after m event h =
      let own = kept_by m (actor_of event) in
      let act = act_of event in
      let seen = seen_by count m.actors (actor_of event) h.seen in
      let P : ActorState → Type 0 = λ k. k.shift ≤ count + 1 in
      let Q : ActorState → Type 0 = λ k. k.shift ≤ count in
      record {
        word = word_after m.shared own act h.word seen;
        seen = All-set P m.actors (actor_of event)
            (after_answer own act (answer_of m.shared act (carried rows ranks own act)))
            (seen_after m.shared own act h.word seen) (All-weaker Q P (λ k few. omega (arith, few)) m.actors h.seen);
      }

pub asked_at_start : (actors : ℕ) (start : List ℕ) (low high : ℕ)
    → HasAskedAtMost 0 (machine_at_start actors start low high)
unfolding machine_at_start
asked_at_start actors start low high = record {
  word = omega arith;
  seen = All-replicate (λ (own : ActorState). own.shift ≤ 0) actors (actor_at_start start low high) (omega arith);
}
