-- What every event keeps: the bounds enclose, and what actors saw of them is no better than they
-- are. Source: this project's choice.
use Rattle.std.specs.Prelude.{ℕ, ◌≡◌, ◌≤◌, All}
use Rattle.ce_rows.specs.Events.{Shared}
use Rattle.ce_rows.specs.Rows.{ScaledRows, EnclosesRows}
use Rattle.ce_cert.specs.Vectors.{IsVectorOf}
use Rattle.ce_rows.specs.Actors.{ActorState, HasSeen}
use Rattle.ce_core.specs.Machine.{Machine}

-- What an actor keeps is sound: its copy is a vector, and the bounds that it saw lie between two ends
-- and are no better than the shared ones.
pub record IsSoundActor (rows : ScaledRows) (bottom top : ℕ) (s : Shared) (own : ActorState) : Type 0 where
  pub vector : IsVectorOf rows own.copy
  pub from : bottom ≤ own.low
  pub to : own.high ≤ top
  pub seen : HasSeen s own

-- The machine is sound: its entries are a vector, its bounds enclose and lie between two ends, what its
-- actors keep is sound, and where the stop word is set, the bounds are equal.
pub record IsSound (rows : ScaledRows) (bottom top : ℕ) (m : Machine) : Type 0 where
  pub vector : IsVectorOf rows m.shared.entries
  pub encloses : EnclosesRows rows m.shared.low m.shared.high
  pub from : bottom ≤ m.shared.low
  pub to : m.shared.high ≤ top
  pub actors : All (IsSoundActor rows bottom top m.shared) m.actors
  pub stop : m.shared.stop ≤ 1
  pub stopped : m.shared.stop ≡ 1 → m.shared.low ≡ m.shared.high
