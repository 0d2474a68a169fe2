-- The command `angle`: the line of an angle. Source: this project's choice.
use Rattle.std.specs.Prelude.{◌≡◌, ◌≤◌, ◌==◌, length, ℕ, List, [], ◌∷◌, ◌++◌, None, codes, if◌then◌else◌}
use Rattle.std.specs.Fmt.{decimal}
use Rattle.ce_angle.specs.Fraction.{Fraction}
use Rattle.ce_orbit.specs.Orbit.{ForwardOrbit, IsForwardOrbit, HasOrbitAbove}
use Rattle.ce_rows.specs.IntervalText.{interval_text}
use Rattle.ce_rows.specs.declared.interval.Interval.{Interval}
use Rattle.ce_thurston.specs.Indices.{rows_at}
use Rattle.ce_solve.specs.SolvedRows.{Closing, IsSolved}
use Rattle.core_entropy.specs.Task.{Task, Unless, solved}
use Rattle.ce_angle.specs.Spelled.{ended, fraction_text}
use Rattle.core_entropy.specs.declared.status.Status.TheVariants.{Done, OrbitTooLong}
use Rattle.ce_orbit.specs.Iterates.{most_places}

-- `angle P/Q low L high H`, and at another scale than 2^32 `angle P/Q scale E low L high H`
abbrev pub line_of : Fraction → ℕ → Interval → List ℕ
line_of angle exponent interval =
    if exponent == 32 then ended (codes "angle " ++ fraction_text angle ++ codes " " ++ interval_text interval)
    else ended (codes "angle " ++ fraction_text angle ++ codes " scale " ++ decimal exponent ++ codes " "
    ++ interval_text interval)

-- the interval that a run hands out
abbrev pub interval_of : Closing → Interval
interval_of c = record { low = c.evidence.low; high = c.evidence.high }

-- The line of an angle has the closing interval of a run on the rows of its orbit, after so many rounds
-- and by so many workers with so many turns, at the scale with an exponent.
pub record IsAngleText (angle : Fraction) (rounds turns workers exponent : ℕ) (text : List ℕ) : Type 0 where
  pub orbit : ForwardOrbit
  pub is_orbit : IsForwardOrbit orbit
  pub of_angle : orbit.angle ≡ angle
  pub few : length orbit.places ≤ most_places
  pub closing : Closing
  pub solution : IsSolved (rows_at orbit exponent) rounds turns workers closing
  pub spelled : text ≡ line_of angle exponent (interval_of closing)

abbrev pub angle_task : ℕ → ℕ → ℕ → ℕ → Fraction → Task
angle_task rounds turns workers exponent angle = record {
  limit = None;
  Ends = λ input. Unless (HasOrbitAbove most_places angle) OrbitTooLong (λ s. s ≡ Done);
  Writes = λ input text. IsAngleText angle rounds turns workers exponent text;
  Claims = λ input text claims. (interval : Interval) × (text ≡ line_of angle exponent interval)
      × (claims ≡ solved angle rounds exponent interval ∷ []);
}
