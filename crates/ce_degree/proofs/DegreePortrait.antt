-- An orbit under multiplication by a degree, with the critical portrait of its angle, is an orbit
-- with a portrait.
use Rattle.std.proofs.Common.{◌≡◌, ◌<◌, ◌*◌, ◌∙◌, ◌==◌, ◌&&◌, not, ℕ, zero, suc, Bool, true, false, length, get_or}
use Rattle.std.proofs.Common.{refl, sym, ap, arith}
use Rattle.std.proofs.lemmas.Bool.{eqb-true, eq-eqb}
use Rattle.std.proofs.lemmas.Bool.Decides.{nat_tests}
use Rattle.std.proofs.Math.Nat.{mod-lt}
use Rattle.ce_angle.specs.Fraction.{Fraction, IsAngle}
use Rattle.ce_orbit.specs.Iterates.{iterate}
use Rattle.ce_orbit.specs.Orbit.{multiplied}
use Rattle.ce_thurston.specs.Portrait.{IsPortraitOrbit}
use Rattle.ce_degree.specs.Degree.{is_on_portrait, arc_of, is_apart}
use Rattle.ce_degree.specs.DegreeOrbit.{OrbitOfDegree, IsOrbitOfDegree, portrait_of}
use Rattle.ce_degree.proofs.Arcs.{one_in_arc, one_preimage}

pub iterate-below : (d : ℕ) (angle : Fraction) (k : ℕ) → IsAngle angle
    → iterate (multiplied d angle) angle.num k < angle.den
iterate-below d angle zero h = h.below_one
iterate-below d angle (suc k) h = let some = h.below_one in
    mod-lt (d * iterate (multiplied d angle) angle.num k) {m = angle.den} (omega arith)

pub place-below : (o : OrbitOfDegree) (i : ℕ) → IsOrbitOfDegree o → i < length o.places
    → get_or o.places i 0 < o.angle.den
place-below o i h here = rw (h.orbit.numerators i here) (iterate-below o.degree o.angle i h.angle)

pub apart-swap : (d : ℕ) (angle : Fraction) (x y : ℕ) → is_apart d angle x y ≡ is_apart d angle y x
apart-swap d angle x y =
    by_tests (is_on_portrait d angle x) (is_on_portrait d angle y) (eq_swap (arc_of d angle x) (arc_of d angle y))
  where
    eq_swap : (a b : ℕ) → (a == b) ≡ (b == a)
    eq_swap a b = grind (arith, nat_tests)

    by_tests : (s t : Bool) → (arc_of d angle x == arc_of d angle y) ≡ (arc_of d angle y == arc_of d angle x)
        → (not s && not t && not (arc_of d angle x == arc_of d angle y)) ≡
        (not t && not s && not (arc_of d angle y == arc_of d angle x))
    by_tests true true e = refl
    by_tests true false e = refl
    by_tests false true e = refl
    by_tests false false e = ap (λ b. not b) e

-- A preimage of the angle is apart from no numerator.
pub preimage-together : (d : ℕ) (angle : Fraction) (x y : ℕ) → multiplied d angle x ≡ angle.num
    → is_apart d angle x y ≡ false
preimage-together d angle x y image =
    let test : is_on_portrait d angle x ≡ true = eq-eqb (multiplied d angle x) angle.num image in
    ap (λ b. not b && not (is_on_portrait d angle y) && not (arc_of d angle x == arc_of d angle y)) test

-- Two numerators of one multiple that are not apart are one.
one_of_multiple : (d : ℕ) (angle : Fraction) (x y : ℕ) → 0 < d → IsAngle angle → x < angle.den → y < angle.den
    → multiplied d angle x ≡ multiplied d angle y → is_apart d angle x y ≡ false → x ≡ y
one_of_multiple d angle x y some h left right same together =
    by_tests (is_on_portrait d angle x) (is_on_portrait d angle y) (arc_of d angle x == arc_of d angle y) refl refl
    refl together
  where
    by_tests : (s t u : Bool) → is_on_portrait d angle x ≡ s → is_on_portrait d angle y ≡ t
        → (arc_of d angle x == arc_of d angle y) ≡ u → (not s && not t && not u) ≡ false → x ≡ y
    by_tests true t u first second arcs together =
        let image = eqb-true (multiplied d angle x) angle.num first in
        one_preimage d angle x y h left right image (sym same ∙ image)
    by_tests false true u first second arcs together =
        let image = eqb-true (multiplied d angle y) angle.num second in
        one_preimage d angle x y h left right (same ∙ image) image
    by_tests false false true first second arcs together =
        one_in_arc d angle x y some h.below_one left right same (eqb-true (arc_of d angle x) (arc_of d angle y) arcs)
    by_tests false false false first second arcs together = absurd (cc)

pub portrait_is : (o : OrbitOfDegree) → IsOrbitOfDegree o → IsPortraitOrbit (portrait_of o)
portrait_is o h =
    let some : 0 < o.degree = let least = h.degree.at_least in omega arith in
    record {
      orbit = h.orbit;
      either_order = apart-swap o.degree o.angle;
      on_portrait = λ i j here within image. preimage-together o.degree o.angle (get_or o.places i 0)
          (get_or o.places j 0) image;
      one_to_one = λ i j here within same together. one_of_multiple o.degree o.angle (get_or o.places i 0)
          (get_or o.places j 0) some h.angle (place-below o i h here) (place-below o j h within) same together;
    }
