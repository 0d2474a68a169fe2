-- What the fields of the shared state and of an actor stand for.
use Rattle.std.specs.Prelude.{ℕ, ◌≤◌, ◌*◌, ◌^◌}
use Rattle.ce_rows.specs.Events.{Shared}
use Rattle.ce_rows.specs.Actors.{ActorState}
use Rattle.ce_core.specs.declared.actor.Actor.{Actor}
use Rattle.ce_core.specs.declared.shared.Shared.{Shared as SharedFields}

abbrev pub shared_of : SharedFields → Shared
shared_of s = record {
  entries = s.entries.items;
  low = s.low;
  high = s.high;
  shift = s.shift;
  stop = s.stop;
}

abbrev pub kept_of : Actor → ActorState
kept_of a = record { copy = a.copy.items; low = a.low; high = a.high; shift = a.shift }

-- The bounds that an actor saw lie from S to 2 S.
pub record HasBoundsInRange (exponent : ℕ) (a : Actor) : Type 0 where
  pub low : 2 ^ exponent ≤ a.low
  pub low_top : a.low ≤ 2 * 2 ^ exponent
  pub high : 2 ^ exponent ≤ a.high
  pub high_top : a.high ≤ 2 * 2 ^ exponent
