-- Classes of angles with one kneading sequence, numbered as they first occur. Source: this
-- project's choice.
--
-- HaveSameKneading    two angles have one kneading sequence, with its preperiod and period
-- AreNumberedBy       numbers beside a list: equal exactly where elements are alike, each new in turn
-- AreClasses          numbers of angles by their kneading sequences (`classes`, clause `classes`; the law
--                     `classes_are_determined` says that the angles determine them)
use Rattle.std.specs.Prelude.{◌≡◌, ◌<◌, ◌↔◌, ℕ, List, length, slice_index, slice_index_or}
use Rattle.ce_angle.specs.Fraction.{Fraction}
use Rattle.ce_orbit.specs.Orbit.{ForwardOrbit, IsForwardOrbit}
use Rattle.ce_orbit.specs.Kneading.{kneading_of, IsKeyOf}
use Rattle.ce_orbit.specs.declared.key.KneadKey.{KneadKey}

-- A key is that of an angle's orbit.
pub record IsKeyOfAngle (angle : Fraction) (key : KneadKey) : Type 0 where
  pub orbit : ForwardOrbit
  pub of_angle : orbit.angle ≡ angle
  pub is_orbit : IsForwardOrbit orbit
  pub is_key : IsKeyOf orbit key

-- Two angles have one kneading sequence, with its preperiod and period.
pub record HaveSameKneading (a b : Fraction) : Type 0 where
  pub first : ForwardOrbit
  pub second : ForwardOrbit
  pub of_first : first.angle ≡ a
  pub of_second : second.angle ≡ b
  pub is_first : IsForwardOrbit first
  pub is_second : IsForwardOrbit second
  pub same : kneading_of first ≡ kneading_of second

-- The number c stands at the place i for the first time, and only lesser ones before.
pub record IsFirstPlace (of : List ℕ) (c i : ℕ) : Type 0 where
  pub within : i < length of
  pub here : slice_index of i ≡ c
  pub earlier : (k : ℕ) → k < i → slice_index of k < c

-- Numbers stand beside the elements of a list: two are equal exactly where the elements are alike,
-- and from 0 on each is new at its first place.
pub record AreNumberedBy {X : Type 0} (Alike : X → X → Type 0) (list : List X) (of first : List ℕ) : Type 0 where
  pub each : length of ≡ length list
  pub below : (k : ℕ) → k < length of → slice_index of k < length first
  pub alike : (i j : ℕ) (d : X) → i < length list → j < length list
      → (slice_index of i ≡ slice_index of j) ↔ Alike (slice_index_or list i d) (slice_index_or list j d)
  pub first_places : (c : ℕ) → c < length first → IsFirstPlace of c (slice_index first c)

-- Equal numbers stand beside equal keys.
abbrev pub AreNumbered : List KneadKey → List ℕ → List ℕ → Type 0
AreNumbered keys of first = AreNumberedBy (λ k l. k ≡ l) keys of first

-- Equal numbers stand beside angles with one kneading sequence.
abbrev pub AreClasses : List Fraction → List ℕ → List ℕ → Type 0
AreClasses angles of first = AreNumberedBy HaveSameKneading angles of first
