-- Runs of the machine: lists of events from a start. Source: this project's choice.
use Rattle.std.specs.Prelude.{ℕ, ◌<◌, ◌≤◌, List, All, fold}
use Rattle.ce_rows.specs.Events.{Shared, actor_of}
use Rattle.ce_rows.specs.Rows.{ScaledRows}
use Rattle.ce_rows.specs.declared.event.Event.{Event}
use Rattle.ce_rows.specs.Actors.{ActorState}
use Rattle.ce_core.specs.Machine.{Machine, machine_at_start, after_event}

abbrev pub after_events : ScaledRows → List ℕ → Machine → List Event → Machine
after_events rows ranks m events = fold (after_event rows ranks) m events

-- All events are by one of the first actors, so many.
abbrev pub AreBy : ℕ → List Event → Type 0
AreBy count events = All (λ event. actor_of event < count) events

-- what so many actors share after events from a start
abbrev pub shared_after : ScaledRows → List ℕ → ℕ → List ℕ → ℕ → ℕ → List Event → Shared
shared_after rows ranks count start low high events =
    (after_events rows ranks (machine_at_start count start low high) events).shared

-- The interval of a state lies between two numbers.
pub record LiesWithin (low high : ℕ) (s : Shared) : Type 0 where
  pub from : low ≤ s.low
  pub to : s.high ≤ high

-- The greatest number of rescalings that was asked for is at most this one, and so is what each actor
-- last saw of it.
pub record HasAskedAtMost (count : ℕ) (m : Machine) : Type 0 where
  pub word : m.shared.shift ≤ count
  pub seen : All (λ (own : ActorState). own.shift ≤ count) m.actors
