-- The command `degree`: the line of an angle under multiplication by a degree. Source: this project's
-- choice.
use Rattle.std.specs.Prelude.{◌≡◌, ◌≤◌, length, ℕ, List, [], ◌∷◌, ◌++◌, None, codes}
use Rattle.std.specs.Fmt.{decimal}
use Rattle.ce_angle.specs.Fraction.{Fraction}
use Rattle.ce_degree.specs.DegreeOrbit.{OrbitOfDegree, IsOrbitOfDegree, HasOrbitAbove, portrait_of}
use Rattle.ce_rows.specs.Rows.{ScaledRows}
use Rattle.ce_rows.specs.declared.interval.Interval.{Interval}
use Rattle.ce_solve.specs.SolvedRows.{Closing, IsSolved}
use Rattle.ce_thurston.specs.PortraitRows.{rows_on}
use Rattle.core_entropy.specs.Angle.{interval_of, line_of}
use Rattle.core_entropy.specs.Task.{Task, Unless, solved_in}
use Rattle.core_entropy.specs.declared.status.Status.TheVariants.{Done, OrbitTooLong}
use Rattle.ce_orbit.specs.Iterates.{most_places}

-- the rows of an orbit in a degree, at the scale with an exponent
abbrev pub degree_rows_at : OrbitOfDegree → ℕ → ScaledRows
degree_rows_at o exponent = record { list = rows_on (portrait_of o); exponent = exponent }

-- `degree D` and the line of the angle
abbrev pub degree_line : ℕ → Fraction → ℕ → Interval → List ℕ
degree_line degree angle exponent interval =
    codes "degree " ++ decimal degree ++ codes " " ++ line_of angle exponent interval

-- The line of an angle has the closing interval of a run on the rows of its orbit in a degree, after so
-- many rounds and by so many workers with so many turns, at the scale with an exponent.
pub record IsDegreeText (degree : ℕ) (angle : Fraction) (rounds turns workers exponent : ℕ)
    (text : List ℕ) : Type 0 where
  pub orbit : OrbitOfDegree
  pub is_orbit : IsOrbitOfDegree orbit
  pub of_degree : orbit.degree ≡ degree
  pub of_angle : orbit.angle ≡ angle
  pub few : length orbit.places ≤ most_places
  pub closing : Closing
  pub solution : IsSolved (degree_rows_at orbit exponent) rounds turns workers closing
  pub spelled : text ≡ degree_line degree angle exponent (interval_of closing)

abbrev pub degree_task : ℕ → ℕ → ℕ → ℕ → ℕ → Fraction → Task
degree_task degree rounds turns workers exponent angle = record {
  limit = None;
  Ends = λ input. Unless (HasOrbitAbove most_places degree angle) OrbitTooLong (λ s. s ≡ Done);
  Writes = λ input text. IsDegreeText degree angle rounds turns workers exponent text;
  Claims = λ input text claims. (interval : Interval) × (text ≡ degree_line degree angle exponent interval)
      × (claims ≡ solved_in degree angle rounds exponent interval ∷ []);
}
