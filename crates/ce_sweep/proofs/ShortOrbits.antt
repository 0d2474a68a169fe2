-- Angles with small denominators have short orbits.
use Rattle.std.proofs.Common.{◌≤◌, ℕ, List, sym, subst, arith}
use Rattle.std.specs.Prelude.{All}
use Rattle.std.specs.List.{Any}
use Rattle.ce_angle.specs.Fraction.{Fraction, IsAngle}
use Rattle.ce_angle.specs.Farey.{IsAngleUpTo}
use Rattle.ce_orbit.specs.Orbit.{HasOrbitAbove}
use Rattle.ce_orbit.proofs.Exists.{within_denominator}
use Rattle.ce_orbit.proofs.Unique.{longer_is}

-- The orbit of an angle has no more angles than its denominator says.
pub not_above : (angle : Fraction) (n : ℕ) → IsAngle angle → angle.den ≤ n → HasOrbitAbove n angle → ⊥
not_above angle n h few above =
    let short = within_denominator angle h in
    let count = short.few in
    let long = (longer_is short.orbit n short.is_orbit).0 (subst (HasOrbitAbove n) (sym short.of_angle) above) in
    omega arith

pub none_above : (order n : ℕ) (angles : List Fraction) → order ≤ n → All (IsAngleUpTo order) angles
    → Any (HasOrbitAbove n) angles → ⊥
none_above order n angles few all (k, angle, within, here, above) =
    let is : IsAngleUpTo order angle = subst (IsAngleUpTo order) here (all k angle within) in
    not_above angle n is.angle (let small = is.small in omega arith) above
