-- The command `watch`: the readings of sessions that look on while workers run, and the line of the
-- angle. Source: this project's choice.
use Rattle.std.specs.Prelude.{◌≡◌, ◌≤◌, ℕ, List, [], ◌∷◌, ◌++◌, None, codes, length, map}
use Rattle.std.specs.Fmt.{decimal}
use Rattle.std.specs.List.{flat_map}
use Rattle.ce_angle.specs.Fraction.{Fraction}
use Rattle.ce_live.specs.declared.reading.Reading.{Reading}
use Rattle.ce_orbit.specs.Orbit.{ForwardOrbit, IsForwardOrbit, HasOrbitAbove}
use Rattle.ce_rows.specs.IntervalText.{interval_text}
use Rattle.ce_rows.specs.declared.interval.Interval.{Interval}
use Rattle.ce_solve.specs.SolvedRows.{AreReadingsFrom, Closing, IsSolved}
use Rattle.ce_thurston.specs.Indices.{rows_at}
use Rattle.core_entropy.specs.Angle.{interval_of, line_of}
use Rattle.core_entropy.specs.Task.{Claim, Task, Unless, solved}
use Rattle.ce_angle.specs.Spelled.{ended}
use Rattle.core_entropy.specs.declared.status.Status.TheVariants.{Done, OrbitTooLong}
use Rattle.ce_orbit.specs.Iterates.{most_places}

-- `session S reading K low L high H`
abbrev pub reading_line : Reading → List ℕ
reading_line r =
    ended (codes "session " ++ decimal r.session ++ codes " reading " ++ decimal r.number ++ codes " "
    ++ interval_text r.interval)

abbrev pub watch_text : Fraction → ℕ → List Reading → Interval → List ℕ
watch_text angle exponent readings interval = flat_map reading_line readings ++ line_of angle exponent interval

-- A text has the readings of so many sessions, each with so many, and the closing interval of one run on
-- the rows of the angle's orbit. A session's readings never widen.
pub record IsWatchText (angle : Fraction) (rounds turns workers sessions reads exponent : ℕ)
    (text : List ℕ) : Type 0 where
  pub orbit : ForwardOrbit
  pub is_orbit : IsForwardOrbit orbit
  pub of_angle : orbit.angle ≡ angle
  pub few : length orbit.places ≤ most_places
  pub closing : Closing
  pub solution : IsSolved (rows_at orbit exponent) rounds turns workers closing
  pub readings : AreReadingsFrom 0 sessions reads closing.readings
  pub spelled : text ≡ watch_text angle exponent closing.readings (interval_of closing)

-- the interval that a session read
abbrev pub reading_claim : Fraction → ℕ → ℕ → Reading → Claim
reading_claim angle rounds exponent r = solved angle rounds exponent r.interval

abbrev pub watch_task : ℕ → ℕ → ℕ → ℕ → ℕ → ℕ → Fraction → Task
watch_task rounds turns workers sessions reads exponent angle = record {
  limit = None;
  Ends = λ input. Unless (HasOrbitAbove most_places angle) OrbitTooLong (λ s. s ≡ Done);
  Writes = λ input text. IsWatchText angle rounds turns workers sessions reads exponent text;
  Claims = λ input text claims. (readings : List Reading) × (interval : Interval)
      × (text ≡ watch_text angle exponent readings interval)
      × (claims ≡ map (reading_claim angle rounds exponent) readings ++ solved angle rounds exponent interval ∷ []);
}
