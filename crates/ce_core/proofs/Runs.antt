-- What holds after every list of events.
use Rattle.std.proofs.Common.{◌≡◌, ◌≤◌, ◌<◌, ◌∙◌, ℕ, List, [], ◌∷◌, ◌++◌, length, refl, sym, subst, arith}
use Rattle.std.specs.Prelude.{All}
use Rattle.std.proofs.lemmas.Grind.{fold-append}
use Rattle.std.proofs.lemmas.List.{length-replicate}
use Rattle.std.proofs.lemmas.List.Elements.{All-replicate, All-head, All-tail, All-nil, All-cons}
use Rattle.ce_rows.specs.Blocks.{IsRanking}
use Rattle.ce_rows.specs.Events.{actor_of}
use Rattle.ce_rows.specs.Rows.{ScaledRows, AreScaledRows, EnclosesRows}
use Rattle.ce_rows.specs.declared.event.Event.{Event}
use Rattle.ce_cert.specs.Vectors.{IsVectorOf}
use Rattle.ce_rows.specs.Actors.{actor_at_start}
use Rattle.ce_core.specs.Machine.{Machine, after_event, machine_at_start}
use Rattle.ce_cert.specs.Start.{IsStart}
use Rattle.ce_core.specs.Runs.{after_events, AreBy, LiesWithin, shared_after}
use Rattle.ce_core.specs.Sound.{IsSoundActor, IsSound}
use Rattle.ce_core.proofs.Events.{event_keeps, event_narrows, event_keeps_actors}

module _ (rows : ScaledRows) (are : AreScaledRows rows) (ranks : List ℕ) (ranking : IsRanking rows.list ranks)
    (bottom top : ℕ) where
  pub run_keeps : (m : Machine) (events : List Event) → IsSound rows bottom top m → AreBy (length m.actors) events
      → IsSound rows bottom top (after_events rows ranks m events)
  run_keeps m [] sound by = sound
  run_keeps m (event ∷ events) sound by =
      let there = All-head (λ e. actor_of e < length m.actors) event events by in
      let same = event_keeps_actors rows are ranks ranking bottom top m sound event there in
      run_keeps (after_event rows ranks m event) events
      (event_keeps rows are ranks ranking bottom top m sound event there)
      (rw same (All-tail (λ e. actor_of e < length m.actors) event events by))

  pub run_narrows : (m : Machine) (events : List Event) → IsSound rows bottom top m → AreBy (length m.actors) events
      → LiesWithin m.shared.low m.shared.high (after_events rows ranks m events).shared
  run_narrows m [] sound by = record { from = omega arith; to = omega arith }
  run_narrows m (event ∷ events) sound by =
      let there = All-head (λ e. actor_of e < length m.actors) event events by in
      let same = event_keeps_actors rows are ranks ranking bottom top m sound event there in
      let first = event_narrows rows are ranks ranking bottom top m sound event there in
      let rest =
      run_narrows (after_event rows ranks m event) events
      (event_keeps rows are ranks ranking bottom top m sound event there)
      (rw same (All-tail (λ e. actor_of e < length m.actors) event events by)) in
      record { from = omega (arith, first.from, rest.from); to = omega (arith, first.to, rest.to) }

  pub run_keeps_actors : (m : Machine) (events : List Event) → IsSound rows bottom top m
      → AreBy (length m.actors) events → length (after_events rows ranks m events).actors ≡ length m.actors
  run_keeps_actors m [] sound by = refl
  run_keeps_actors m (event ∷ events) sound by =
      let there = All-head (λ e. actor_of e < length m.actors) event events by in
      let same = event_keeps_actors rows are ranks ranking bottom top m sound event there in
      run_keeps_actors (after_event rows ranks m event) events
      (event_keeps rows are ranks ranking bottom top m sound event there)
      (rw same (All-tail (λ e. actor_of e < length m.actors) event events by)) ∙ same

All-front : (P : Event → Type 0) (xs ys : List Event) → All P (xs ++ ys) → All P xs
All-front P [] ys h = All-nil P
All-front P (x ∷ xs) ys h = All-cons P x xs (All-head P x (xs ++ ys) h) (All-front P xs ys (All-tail P x (xs ++ ys) h))

All-back : (P : Event → Type 0) (xs ys : List Event) → All P (xs ++ ys) → All P ys
All-back P [] ys h = h
All-back P (x ∷ xs) ys h = All-back P xs ys (All-tail P x (xs ++ ys) h)

-- The start is sound, within any ends that hold the initial enclosure.
pub start_sound : (rows : ScaledRows) (start : List ℕ) (low high bottom top count : ℕ) → IsVectorOf rows start
    → EnclosesRows rows low high → bottom ≤ low → high ≤ top
    → IsSound rows bottom top (machine_at_start count start low high)
unfolding machine_at_start
start_sound rows start low high bottom top count vector encloses from to = record {
  vector = vector;
  encloses = encloses;
  from = from;
  to = to;
  actors = All-replicate (IsSoundActor rows bottom top (machine_at_start count start low high).shared) count
      (actor_at_start start low high)
      (record { vector = vector; from = from; to = to; seen = record { low = omega arith; high = omega arith } });
  stop = omega arith;
  stopped = λ is. absurd (omega arith);
}

module _ (rows : ScaledRows) (ranks start : List ℕ) (low high count : ℕ) (h : IsStart rows ranks start low high) where
  beginning : IsSound rows low high (machine_at_start count start low high)
  beginning = start_sound rows start low high low high count h.vector h.encloses (omega arith) (omega arith)

  there_are : length (machine_at_start count start low high).actors ≡ count
  unfolding machine_at_start
  there_are = length-replicate count (actor_at_start start low high)

  pub sound_after : (events : List Event) → AreBy count events
      → IsSound rows low high (after_events rows ranks (machine_at_start count start low high) events)
  sound_after events by =
      run_keeps rows h.scaled ranks h.ranking low high (machine_at_start count start low high) events beginning
      (rw there_are by)

  pub within_initial : (events : List Event) → AreBy count events
      → LiesWithin low high (shared_after rows ranks count start low high events)
  within_initial events by = let sound = sound_after events by in record { from = sound.from; to = sound.to }

  pub narrows_further : (earlier later : List Event) → AreBy count (earlier ++ later) → let s =
      shared_after rows ranks count start low high earlier in
      LiesWithin s.low s.high (shared_after rows ranks count start low high (earlier ++ later))
  narrows_further earlier later by =
      let m = machine_at_start count start low high in
      let first : AreBy count earlier = All-front (λ e. actor_of e < count) earlier later by in
      let second : AreBy count later = All-back (λ e. actor_of e < count) earlier later by in
      let sound = sound_after earlier first in
      let same : length (after_events rows ranks m earlier).actors ≡ count =
      run_keeps_actors rows h.scaled ranks h.ranking low high m earlier beginning (rw there_are first) ∙ there_are in
      let further =
      run_narrows rows h.scaled ranks h.ranking low high (after_events rows ranks m earlier) later sound
      (rw same second) in
      let P : Machine → Type 0 =
      λ n. LiesWithin (after_events rows ranks m earlier).shared.low
      (after_events rows ranks m earlier).shared.high n.shared in
      subst P (sym (fold-append (after_event rows ranks) m earlier later)) further
