-- Numbers of keys are numbers of angles.
use Rattle.std.proofs.Common.{◌≡◌, ◌↔◌, ◌∙◌, ℕ, List, [], get_or, sym, ap, arith}
use Rattle.std.specs.Prelude.{All}
use Rattle.std.specs.List.{AllZip}
use Rattle.ce_angle.specs.Fraction.{Fraction}
use Rattle.ce_orbit.specs.Orbit.{ForwardOrbit, HasOrbitWithin}
use Rattle.ce_orbit.specs.Kneading.{kneading_of}
use Rattle.ce_orbit.specs.declared.key.KneadKey.{KneadKey}
use Rattle.ce_orbit.proofs.Keys.{keys_same}
use Rattle.ce_orbit.proofs.Unique.{one_orbit}
use Rattle.ce_sweep.specs.Classes.{IsKeyOfAngle, HaveSameKneading, AreNumbered, AreClasses}
use Rattle.ce_sweep.proofs.Zipped.{zip-length, zip-at}

-- Keys of angles are equal exactly where the angles have one kneading sequence.
pub same_by_keys : (a b : Fraction) (k l : KneadKey) → IsKeyOfAngle a k → IsKeyOfAngle b l
    → (k ≡ l) ↔ HaveSameKneading a b
same_by_keys a b k l left right =
    let both = keys_same left.orbit right.orbit k l left.is_orbit right.is_orbit left.is_key right.is_key in (
      λ same. record {
        first = left.orbit;
        second = right.orbit;
        of_first = left.of_angle;
        of_second = right.of_angle;
        is_first = left.is_orbit;
        is_second = right.is_orbit;
        same = both.0 same;
      },
      λ h.
          let first = one_orbit left.orbit h.first left.is_orbit h.is_first (left.of_angle ∙ sym h.of_first) in
          let second = one_orbit h.second right.orbit h.is_second right.is_orbit (h.of_second ∙ sym right.of_angle) in
          both.1 (ap (λ (o : ForwardOrbit). kneading_of o) first ∙ h.same ∙ ap
          (λ (o : ForwardOrbit). kneading_of o) second),
    )

pub classes_from_keys : (angles : List Fraction) (keys : List KneadKey) (of first : List ℕ)
    → AllZip IsKeyOfAngle angles keys → AreNumbered keys of first → AreClasses angles of first
classes_from_keys angles keys of first pairs h =
    let long = zip-length IsKeyOfAngle angles keys pairs in
    let none : KneadKey = record { preperiod = 0; period = 0; symbols = [] } in
    record {
      each = h.each ∙ sym long;
      below = h.below;
      alike = λ i j d a b.
          let numbers = h.alike i j none (omega arith) (omega arith) in
          let keys_alike = same_by_keys (get_or angles i d) (get_or angles j d) (get_or keys i none)
          (get_or keys j none) (zip-at IsKeyOfAngle angles keys i d none pairs a)
          (zip-at IsKeyOfAngle angles keys j d none pairs b) in
          (λ same. keys_alike.0 (numbers.0 same), λ same. numbers.1 (keys_alike.1 same));
      first_places = h.first_places;
    }

-- An angle with a key has a short orbit.
pub orbits_from_keys : (angles : List Fraction) (keys : List KneadKey) → AllZip IsKeyOfAngle angles keys
    → All (HasOrbitWithin 128) angles
orbits_from_keys angles keys pairs =
    let none : KneadKey = record { preperiod = 0; period = 0; symbols = [] } in
    λ i d within.
    let key = zip-at IsKeyOfAngle angles keys i d none pairs within in
    record { orbit = key.orbit; of_angle = key.of_angle; is_orbit = key.is_orbit; few = key.is_key.few }
