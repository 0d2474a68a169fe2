-- Under any map the first numbers are all different, or an orbit comes back within them; so each angle has an orbit.
use Rattle.std.proofs.Common.{◌≡◌, ◌≢◌, ◌<◌, ◌+◌, ◌⊎◌, ◌∙◌, inl, inr, ℕ, zero, suc, Bool, true, false, length, map}
use Rattle.std.proofs.Common.{get_or, refl, sym, ap, subst, arith, add-one}
use Rattle.std.specs.List.{range_with_len}
use Rattle.std.proofs.lemmas.Bool.{cases_lt, false≢true, eqb-true, eq-eqb}
use Rattle.std.proofs.Math.Dec.{eqb}
use Rattle.std.proofs.lemmas.List.FromFn.{length-map-range_with_len, get_or-map-range_with_len}
use Rattle.std.proofs.lemmas.Map.Keys.{IsDistinct-from_apart}
use Rattle.std.proofs.lemmas.Map.Steps.{length-le_from_distinct_below}
use Rattle.std.proofs.lemmas.Map.Views.{Contains-from_any}
use Rattle.ce_angle.specs.Fraction.{Fraction, IsAngle}
use Rattle.ce_orbit.specs.Iterates.{iterate, AreDistinctIterates, HasOrbitOf}
use Rattle.ce_orbit.specs.Orbit.{HasOrbitWithin, HasOrbitAbove, doubled}
use Rattle.ce_orbit.proofs.Next.{numerator-below}

-- a number among the first values of a sequence, or at none of them
record IsFound (f : ℕ → ℕ) (x n : ℕ) : Type 0 where
  place : ℕ
  within : place < n
  here : f place ≡ x

found_by : (t : Bool) (f : ℕ → ℕ) (x n : ℕ) → eqb (f n) x ≡ t → IsFound f x n ⊎ ((k : ℕ) → k < n → f k ≢ x)
    → IsFound f x (suc n) ⊎ ((k : ℕ) → k < suc n → f k ≢ x)
found_by true f x n e before = inl (record { place = n; within = omega arith; here = eqb-true (f n) x e })
found_by false f x n e (inl old) =
    inl (record { place = old.place; within = let less = old.within in omega arith; here = old.here })
found_by false f x n e (inr none) = inr (λ k within same. elim (cases_lt k n) [
  | inl less ↦ none k less same
  | inr last ↦ let here : k ≡ n = omega arith in
      false≢true (sym e ∙ eq-eqb (f n) x (ap f (sym here) ∙ same))
])

search_first : (f : ℕ → ℕ) (x n : ℕ) → IsFound f x n ⊎ ((k : ℕ) → k < n → f k ≢ x)
search_first f x zero = inr (λ k within. absurd (omega arith))
search_first f x (suc n) = found_by (eqb (f n) x) f x n refl (search_first f x n)

not_equal : (a b : ℕ) → (a ≡ b → ⊥) → eqb a b ≡ false
not_equal a b apart = by_test (eqb a b) (λ e. apart (eqb-true a b e))
  where
    by_test : (t : Bool) → (t ≡ true → ⊥) → t ≡ false
    by_test true none = absurd (none refl)
    by_test false none = refl

module _ (f : ℕ → ℕ) (x : ℕ) where
  -- The first repeat is at n.
  orbit_from : (n : ℕ) → AreDistinctIterates f x n → IsFound (iterate f x) (iterate f x n) n → HasOrbitOf f x n
  orbit_from n distinct found =
      let long = length-map-range_with_len (iterate f x) 0 n in
      record {
        places = map (iterate f x) (range_with_len 0 n);
        preperiod = found.place;
        is_orbit = record {
          numerators = λ k within. get_or-map-range_with_len (iterate f x) 0 n k k 0 (omega arith) (omega arith);
          distinct = subst (λ m. AreDistinctIterates f x m) (sym long) distinct;
          comes_back = let less = found.within in omega arith;
          repeats = ap (iterate f x) long ∙ sym found.here;
        };
        few = omega arith;
      }

  weaker : (n : ℕ) → HasOrbitOf f x n → HasOrbitOf f x (suc n)
  weaker n h =
      record {
        places = h.places;
        preperiod = h.preperiod;
        is_orbit = h.is_orbit;
        few = let less = h.few in
            omega arith;
      }

  more_distinct : (n : ℕ) → AreDistinctIterates f x n → ((k : ℕ) → k < n → iterate f x k ≢ iterate f x n)
      → AreDistinctIterates f x (suc n)
  more_distinct n distinct new i j below within same = elim (cases_lt j n) [
    | inl less ↦ distinct i j below less same
    | inr last ↦ let here : j ≡ n = omega arith in
        new i (omega arith) (same ∙ ap (iterate f x) here)
  ]

  next_by : (n : ℕ) → AreDistinctIterates f x n
      → IsFound (iterate f x) (iterate f x n) n ⊎ ((k : ℕ) → k < n → iterate f x k ≢ iterate f x n)
      → HasOrbitOf f x n ⊎ AreDistinctIterates f x (suc n)
  next_by n distinct (inl found) = inl (orbit_from n distinct found)
  next_by n distinct (inr new) = inr (more_distinct n distinct new)

  step : (n : ℕ) → HasOrbitOf f x n ⊎ AreDistinctIterates f x (suc n)
      → HasOrbitOf f x (suc n) ⊎ AreDistinctIterates f x (suc (suc n))
  step n (inl short) = inl (weaker n short)
  step n (inr distinct) = next_by (suc n) distinct (search_first (iterate f x) (iterate f x (suc n)) (suc n))

  first_alone : AreDistinctIterates f x (suc zero)
  first_alone i j below within same = omega arith

  short_or_long : (n : ℕ) → HasOrbitOf f x n ⊎ AreDistinctIterates f x (suc n)
  short_or_long zero = inr first_alone
  short_or_long (suc n) = step n (short_or_long n)

  -- An orbit has at most n places, or the first n + 1 numbers are all different.
  pub repeats_or_not : (n : ℕ) → HasOrbitOf f x n ⊎ AreDistinctIterates f x (n + 1)
  repeats_or_not n = rw (add-one n) (short_or_long n)

  short_is_not_long : (n : ℕ) → HasOrbitOf f x n → ¬ (AreDistinctIterates f x (suc n))
  short_is_not_long n h distinct =
      let back = h.is_orbit.comes_back in
      let few = h.few in
      distinct h.preperiod (length h.places) back (omega arith) (sym h.is_orbit.repeats)

  -- The first n numbers are all different, or they are not.
  pub distinct_or_not : (n : ℕ) → AreDistinctIterates f x n ⊎ (¬ (AreDistinctIterates f x n))
  distinct_or_not zero = inl (λ i j below within. absurd (omega (arith, within)))
  distinct_or_not (suc n) = elim (short_or_long n) [
    | inl short ↦ inr (short_is_not_long n short)
    | inr distinct ↦ inl distinct
  ]

  -- More than so many numbers below a bound are not all different.
  too_many : (bound : ℕ) → ((k : ℕ) → iterate f x k < bound) → AreDistinctIterates f x (bound + 1) → ⊥
  too_many bound below distinct =
      let n = bound + 1 in
      let xs = map (iterate f x) (range_with_len 0 n) in
      let long = length-map-range_with_len (iterate f x) 0 n in
      let at : (k d : ℕ) → k < n → get_or xs k d ≡ iterate f x k =
      λ k d within. get_or-map-range_with_len (iterate f x) 0 n k k d within (omega arith) in
      let apart = IsDistinct-from_apart eqb xs (λ i j d order within.
      let left = at i d (omega arith) in
      let right = at j d (omega arith) in
      not_equal (get_or xs i d) (get_or xs j d) (λ same. distinct i j order (omega arith) (sym left ∙ same ∙ right))) in
      let few = length-le_from_distinct_below xs bound apart (λ q found.
      let here = Contains-from_any {eq = eqb} (λ x y e. eqb-true x y e) q xs found in
      let small = below here.0 in
      let value = at here.0 q (let within = here.1 in omega arith) in
      let same = here.2 in
      omega arith) in
      omega arith

  -- Numbers that stay below a bound repeat within so many.
  pub repeats_within : (bound : ℕ) → ((k : ℕ) → iterate f x k < bound) → HasOrbitOf f x bound
  repeats_within bound below = elim (repeats_or_not bound) [
    | inl short ↦ short
    | inr distinct ↦ absurd (too_many bound below distinct)
  ]

of_doubling : (angle : Fraction) (n : ℕ) → IsAngle angle → HasOrbitOf (doubled angle) angle.num n
    → HasOrbitWithin n angle
of_doubling angle n h short = record {
  orbit = record { angle = angle; places = short.places; preperiod = short.preperiod };
  of_angle = refl;
  is_orbit = record { angle = h; orbit = short.is_orbit };
  few = short.few;
}

-- The orbit of an angle has at most n angles, or more.
pub within_or_above : (angle : Fraction) (n : ℕ) → IsAngle angle → HasOrbitWithin n angle ⊎ HasOrbitAbove n angle
within_or_above angle n h = elim (repeats_or_not (doubled angle) angle.num n) [
  | inl short ↦ inl (of_doubling angle n h short)
  | inr distinct ↦ inr distinct
]

-- The numerators of an orbit are below the denominator, so at most as many are different.
pub within_denominator : (angle : Fraction) → IsAngle angle → HasOrbitWithin angle.den angle
within_denominator angle h =
    of_doubling angle angle.den h (repeats_within (doubled angle) angle.num angle.den (λ k. numerator-below angle k h))
