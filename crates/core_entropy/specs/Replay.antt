-- The command `replay`: scripts for an angle, and the text of a replayed one, which is the entries of
-- the vector after its events and the line of the angle. Source: this project's choice.
use Rattle.std.specs.Prelude.{◌≡◌, ◌⊎◌, ℕ, List, [], ◌∷◌, ◌++◌, Some, codes, length}
use Rattle.std.specs.Fmt.{decimal}
use Rattle.ce_angle.specs.Fraction.{Fraction}
use Rattle.ce_core.specs.Machine.{actor_count}
use Rattle.ce_core.specs.Runs.{shared_after}
use Rattle.ce_core.specs.Script.{IsScriptOf, IsFirstBad}
use Rattle.ce_orbit.specs.Orbit.{ForwardOrbit, IsForwardOrbit, HasOrbitWithin, HasOrbitAbove}
use Rattle.ce_rows.specs.Events.{Shared}
use Rattle.ce_rows.specs.Rows.{ScaledRows}
use Rattle.ce_rows.specs.declared.event.Event.{Event}
use Rattle.ce_rows.specs.declared.interval.Interval.{Interval}
use Rattle.ce_thurston.specs.Indices.{rows_of_orbit}
use Rattle.ce_vector.specs.Start.{start_of}
use Rattle.core_entropy.specs.Angle.{line_of}
use Rattle.core_entropy.specs.InitialEnclosure.{IsInitialEnclosure}
use Rattle.ce_thurston.specs.Indices.{rows_at}
use Rattle.core_entropy.specs.Show.{spaced}
use Rattle.core_entropy.specs.Task.{Task, Unless, solved}
use Rattle.ce_angle.specs.Spelled.{ended}
use Rattle.core_entropy.specs.declared.status.Status.{Status}
use Rattle.core_entropy.specs.declared.status.Status.TheVariants.{Done, OrbitTooLong, BadEvent}
use Rattle.ce_orbit.specs.Iterates.{most_places}

-- A text is a script for an angle: each line is an event of one of sixteen actors, on an entry for
-- one of the pairs, if it is on one.
pub record HasScript (angle : Fraction) (script : List ℕ) : Type 0 where
  pub short : HasOrbitWithin most_places angle
  pub events : List Event
  pub read : IsScriptOf (length (rows_of_orbit short.orbit)) script events

-- A line of a text is the first one that is no event for an angle.
pub record HasBadLine (angle : Fraction) (script : List ℕ) (line : ℕ) : Type 0 where
  pub short : HasOrbitWithin most_places angle
  pub bad : IsFirstBad (length (rows_of_orbit short.orbit)) script line

-- what sixteen actors share after events, from the start of so many rounds and from an
-- initial enclosure
abbrev pub replayed : ScaledRows → List ℕ → ℕ → Interval → List Event → Shared
replayed rows ranks rounds initial events =
    shared_after rows ranks actor_count (start_of rows.list ranks rounds) initial.low initial.high events

abbrev pub entries_line : List ℕ → List ℕ
entries_line entries = ended (codes "entries" ++ spaced decimal entries)

-- the interval that actors share
abbrev pub shared_interval : Shared → Interval
shared_interval shared = record { low = shared.low; high = shared.high }

abbrev pub replay_text : Fraction → ℕ → Shared → List ℕ
replay_text angle exponent shared =
    entries_line shared.entries ++ line_of angle exponent (shared_interval shared)

-- A text is that of a script replayed for an angle: what sixteen actors share after its events.
pub record IsReplayText (angle : Fraction) (rounds exponent : ℕ) (script text : List ℕ) : Type 0 where
  pub orbit : ForwardOrbit
  pub is_orbit : IsForwardOrbit orbit
  pub of_angle : orbit.angle ≡ angle
  pub initial : Interval
  pub is_initial : IsInitialEnclosure (rows_at orbit exponent) rounds initial
  pub events : List Event
  pub read : IsScriptOf (length (rows_of_orbit orbit)) script events
  pub shared : Shared
  pub after : shared ≡ replayed (rows_at orbit exponent) is_initial.ranks rounds initial events
  pub spelled : text ≡ replay_text angle exponent shared

-- the most bytes of a script
abbrev pub script_limit : ℕ
script_limit = 1048576

-- A script ends with its first bad line, or it is done.
abbrev pub EndsByScript : Fraction → List ℕ → Status → Type 0
EndsByScript angle script s =
    ((line : ℕ) × HasBadLine angle script line × (s ≡ BadEvent line)) ⊎ (HasScript angle script × (s ≡ Done))

abbrev pub replay_task : ℕ → ℕ → Fraction → Task
replay_task rounds exponent angle = record {
  limit = Some script_limit;
  Ends = λ script. Unless (HasOrbitAbove most_places angle) OrbitTooLong (EndsByScript angle script);
  Writes = λ script text. IsReplayText angle rounds exponent script text;
  Claims = λ script text claims. (shared : Shared) × (text ≡ replay_text angle exponent shared)
      × (claims ≡ solved angle rounds exponent (shared_interval shared) ∷ []);
}
