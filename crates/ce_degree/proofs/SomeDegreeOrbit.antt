-- An angle has an orbit under multiplication by a degree, of at most so many angles or of more.
use Rattle.std.proofs.Common.{◌⊎◌, inl, inr, ℕ, refl}
use Rattle.ce_angle.specs.Fraction.{Fraction, IsAngle}
use Rattle.ce_orbit.specs.Iterates.{HasOrbitOf}
use Rattle.ce_orbit.specs.Orbit.{multiplied}
use Rattle.ce_orbit.proofs.Exists.{repeats_or_not, repeats_within}
use Rattle.ce_degree.specs.Degree.{IsDegree}
use Rattle.ce_degree.specs.DegreeOrbit.{HasOrbitAbove, HasOrbitWithin}
use Rattle.ce_degree.proofs.DegreePortrait.{iterate-below}

module _ (d : ℕ) (angle : Fraction) (degree : IsDegree d) (h : IsAngle angle) where
  of_degree : (count : ℕ) → HasOrbitOf (multiplied d angle) angle.num count → HasOrbitWithin count d angle
  of_degree count short = record {
    orbit = record { degree = d; angle = angle; places = short.places; preperiod = short.preperiod };
    of_degree = refl;
    of_angle = refl;
    is_orbit = record { degree = degree; angle = h; orbit = short.is_orbit };
    few = short.few;
  }

  pub within_denominator : HasOrbitWithin angle.den d angle
  within_denominator =
      of_degree angle.den (repeats_within (multiplied d angle) angle.num angle.den (λ k. iterate-below d angle k h))

  pub either_way : (count : ℕ) → HasOrbitWithin count d angle ⊎ HasOrbitAbove count d angle
  either_way count = elim (repeats_or_not (multiplied d angle) angle.num count) [
    | inl short ↦ inl (of_degree count short)
    | inr distinct ↦ inr distinct
  ]

pub within_or_above : (d count : ℕ) (angle : Fraction) → IsDegree d → IsAngle angle
    → HasOrbitWithin count d angle ⊎ HasOrbitAbove count d angle
within_or_above d count angle degree h = either_way d angle degree h count
