-- The forward orbit of an angle under multiplication by a degree. Source: [Gao2020].
use Rattle.std.specs.Prelude.{◌≡◌, ℕ, ◌+◌, ◌≤◌, List, length}
use Rattle.ce_angle.specs.Fraction.{Fraction, IsAngle}
use Rattle.ce_orbit.specs.Iterates.{IsOrbitOf, AreDistinctIterates, place_after_in}
use Rattle.ce_orbit.specs.Orbit.{multiplied}
use Rattle.ce_thurston.specs.Portrait.{PortraitOrbit}
use Rattle.ce_degree.specs.Degree.{IsDegree, is_apart}

-- a degree, an angle, the numerators of its orbit by their places, and the place that the first
-- repeat comes back to
pub record OrbitOfDegree : Type 0 where
  pub degree : ℕ
  pub angle : Fraction
  pub places : List ℕ
  pub preperiod : ℕ

-- The places are the numerators up to the first repeat.
pub record IsOrbitOfDegree (o : OrbitOfDegree) : Type 0 where
  pub degree : IsDegree o.degree
  pub angle : IsAngle o.angle
  pub orbit : IsOrbitOf (multiplied o.degree o.angle) o.angle.num o.places o.preperiod

-- The orbit of an angle has more than so many angles: as many and one more are all different.
abbrev pub HasOrbitAbove : ℕ → ℕ → Fraction → Type 0
HasOrbitAbove count d angle = AreDistinctIterates (multiplied d angle) angle.num (count + 1)

-- The orbit of an angle has at most so many angles.
pub record HasOrbitWithin (count d : ℕ) (angle : Fraction) : Type 0 where
  pub orbit : OrbitOfDegree
  pub of_degree : orbit.degree ≡ d
  pub of_angle : orbit.angle ≡ angle
  pub is_orbit : IsOrbitOfDegree orbit
  pub few : length orbit.places ≤ count

abbrev pub next_of : OrbitOfDegree → ℕ → ℕ
next_of o i = place_after_in o.places o.preperiod i

-- the orbit with its critical portrait, from which pairs, images, walks and rows follow
abbrev pub portrait_of : OrbitOfDegree → PortraitOrbit
portrait_of o = record {
  step = multiplied o.degree o.angle;
  start = o.angle.num;
  separated = is_apart o.degree o.angle;
  places = o.places;
  preperiod = o.preperiod;
}
