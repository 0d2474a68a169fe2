-- The fractions that the recurrence lists are the angles up to the order, from the first one on.
use Rattle.std.proofs.Common.{◌≡◌, ◌<◌, ◌≤◌, ◌*◌, ◌^◌, ◌⊎◌, ◌∙◌, inl, inr, ℕ, zero, suc, true, false, List, [], ◌∷◌}
use Rattle.std.proofs.Common.{length, refl, sym, ap, subst, arith}
use Rattle.std.specs.Prelude.{nat_lt, All, Contains}
use Rattle.std.specs.List.{AllPairs}
use Rattle.std.proofs.lemmas.Bool.{cases_lt}
use Rattle.std.proofs.lemmas.Bool.Decides.{nat_tests}
use Rattle.std.proofs.lemmas.List.Elements.{All-cons, All-nil, All-weaker}
use Rattle.std.proofs.lemmas.List.Kept.{AllPairs-cons}
use Rattle.ce_angle.specs.Fraction.{Fraction, IsAngle}
use Rattle.ce_angle.specs.Order.{IsBelow}
use Rattle.ce_angle.specs.Farey.{IsAngleUpTo, AreAnglesUpTo}
use Rattle.ce_angle.specs.FareyInside.{AreNeighbours, following, fractions_from}
use Rattle.ce_angle.proofs.FareySteps.{IsNext, next_is, lowest_from_unit, second_within, none_between, above_first}
use Rattle.ce_angle.proofs.FareySteps.{SufficeFrom, suffice-next, suffice-square, none-left}
use Rattle.ce_angle.proofs.Unique.{lowest_terms_unique}
use Rattle.std.proofs.Math.Nat.{mul-le-mul_right, mul-lt-mul_of_pos_right}

-- the list at a number of steps
from-more : (order steps : ℕ) (f g : Fraction) → f.num < f.den
    → fractions_from order (suc steps) f g ≡ f ∷ fractions_from order steps g (following order f g)
unfolding fractions_from
from-more order steps f g below = let test : nat_lt f.num f.den ≡ true = grind (arith, nat_tests) in rw test refl

from-end : (order steps : ℕ) (f g : Fraction) → f.den ≤ f.num → fractions_from order steps f g ≡ []
unfolding fractions_from
from-end order zero f g over = refl
from-end order (suc steps) f g over = let test : nat_lt f.num f.den ≡ false = grind (arith, nat_tests) in rw test refl

from-none : (order : ℕ) (f g : Fraction) → fractions_from order zero f g ≡ []
unfolding fractions_from
from-none order f g = refl

module _ (order : ℕ) (f g : Fraction) (h : AreNeighbours order f g) where
  pub first_angle : f.num < f.den → order ≤ 2 ^ 31 → IsAngleUpTo order f
  first_angle below few = record {
    angle = record {
      below_one = below;
      lowest = lowest_from_unit f.num f.den g.num g.den h.unit;
      small = let small = h.small_first in omega arith;
    };
    small = h.small_first;
  }

  next : IsNext order f.num f.den g.num g.den (following order f g).num (following order f g).den
  next = next_is order f.num f.den g.num g.den h.unit h.some_first h.some_second h.small_second

  pub neighbours-next : f.num < f.den → AreNeighbours order g (following order f g)
  neighbours-next below = let n = next in record {
    some_first = h.some_second;
    some_second = n.some;
    small_first = h.small_second;
    small_second = n.small;
    within = second_within f.num f.den g.num g.den h.unit h.some_second below;
    unit = n.unit;
    far = n.far;
  }

-- As many steps as suffice give one list.
pub steps-same : (order m n : ℕ) (f g : Fraction) → AreNeighbours order f g → SufficeFrom order m f.num f.den
    → SufficeFrom order n f.num f.den → fractions_from order m f g ≡ fractions_from order n f g
steps-same order zero n f g h left right =
    let over = none-left order f.num f.den (let some = h.some_first in let small = h.small_first in omega arith) left in
    from-end order zero f g over ∙ sym (from-end order n f g over)
steps-same order (suc m) zero f g h left right =
    let over = none-left order f.num f.den
    (let some = h.some_first in let small = h.small_first in omega arith) right in
    from-end order (suc m) f g over ∙ sym (from-end order zero f g over)
steps-same order (suc m) (suc n) f g h left right =
    by_end (λ below. steps-same order m n g (following order f g) (neighbours-next order f g h below) (enough m left)
    (enough n right)) (cases_lt f.num f.den)
  where
    enough : (k : ℕ) → SufficeFrom order (suc k) f.num f.den → SufficeFrom order k g.num g.den
    enough k all = suffice-next order k f.num f.den g.num g.den h.unit h.some_first h.small_first h.small_second all

    by_end : (f.num < f.den
        → fractions_from order m g (following order f g) ≡ fractions_from order n g (following order f g))
        → (f.num < f.den) ⊎ (f.den ≤ f.num) → fractions_from order (suc m) f g ≡ fractions_from order (suc n) f g
    by_end rest_same (inr over) = from-end order (suc m) f g over ∙ sym (from-end order (suc n) f g over)
    by_end rest_same (inl below) =
        from-more order m f g below ∙ ap (λ rest. f ∷ rest) (rest_same below) ∙ sym (from-more order n f g below)

-- One angle less is left.
pub left-more : (order : ℕ) (f g : Fraction) → AreNeighbours order f g → f.num < f.den
    → fractions_from order (order * order) f g ≡ f ∷ fractions_from order (order * order) g (following order f g)
left-more order f g h below = by_steps (order * order) refl
  where
    by_steps : (steps : ℕ) → order * order ≡ steps
        → fractions_from order (order * order) f g ≡ f ∷ fractions_from order (order * order) g (following order f g)
    by_steps zero none = absurd (no_square none)
      where
        no_square : order * order ≡ 0 → ⊥
        no_square same =
            let over = none-left order f.num f.den
            (let some = h.some_first in let small = h.small_first in omega arith)
            (subst (λ k. SufficeFrom order k f.num f.den) same (suffice-square order f.num f.den)) in
            omega arith
    by_steps (suc steps) square =
        let whole = subst (λ k. SufficeFrom order k f.num f.den) square (suffice-square order f.num f.den) in
        let rest = suffice-next order steps f.num f.den g.num g.den h.unit h.some_first h.small_first h.small_second
        whole in
        ap (λ k. fractions_from order k f g) square ∙ from-more order steps f g below
        ∙ ap (λ xs. f ∷ xs) (steps-same order steps (order * order) g (following order f g)
        (neighbours-next order f g h below) rest (suffice-square order g.num g.den))

pub left-end : (order : ℕ) (f g : Fraction) → f.den ≤ f.num → fractions_from order (order * order) f g ≡ []
left-end order f g over = from-end order (order * order) f g over

-- An angle up to the order, at least f.
record IsFrom (order : ℕ) (f h : Fraction) : Type 0 where
  pub up_to : IsAngleUpTo order h
  pub least : f.num * h.den ≤ h.num * f.den

-- A list has the angles up to the order from f on, in rising order.
record AreFrom (order : ℕ) (f : Fraction) (list : List Fraction) : Type 0 where
  pub angles : All (IsFrom order f) list
  pub every : (h : Fraction) → IsFrom order f h → Contains list h
  pub rising : AllPairs IsBelow list

-- No angle is at least 1.
none_from : (order : ℕ) (f h : Fraction) → 0 < f.den → f.den ≤ f.num → IsFrom order f h → ⊥
none_from order f h some over from =
    let below = from.up_to.angle.below_one in
    let least = from.least in
    over_one f.num f.den h.num h.den some over below least
  where
    over_one : (a b n m : ℕ) → 0 < b → b ≤ a → n < m → a * m ≤ n * b → ⊥
    over_one a b n m some over below least =
        let first = mul-le-mul_right {m = b} {n = a} m over in
        let second = mul-lt-mul_of_pos_right {m = n} {n = m} {k = b} below some in
        omega (arith, first, second, least)

list-end : (order : ℕ) (f : Fraction) → 0 < f.den → f.den ≤ f.num → AreFrom order f []
list-end order f some over = record {
  angles = All-nil (IsFrom order f);
  every = λ h from. absurd (none_from order f h some over from);
  rising = λ i j d order within. absurd (omega arith);
}

module _ (order : ℕ) (f g : Fraction) (rest : List Fraction) (n : AreNeighbours order f g) (below : f.num < f.den)
    (few : order ≤ 2 ^ 31) (h : AreFrom order g rest) where
  some_den : (x : Fraction) → IsAngle x → 0 < x.den
  some_den x is = let less = is.below_one in omega arith

  above : (x : Fraction) → IsFrom order g x → IsBelow f x
  above x from = above_first f.num f.den g.num g.den x.num x.den n.unit (some_den x from.up_to.angle) from.least

  first : IsFrom order f f
  first = record { up_to = first_angle order f g n below few; least = omega arith }

  later : (x : Fraction) → IsFrom order g x → IsFrom order f x
  later x from = record { up_to = from.up_to; least = let more = above x from in omega arith }

  contains-later : (x : Fraction) → Contains rest x → Contains (f ∷ rest) x
  contains-later x (k, within, here) = (suc k, omega arith, here)

  listed : (x : Fraction) → IsFrom order f x → (f.num * x.den < x.num * f.den) ⊎ (x.num * f.den ≤ f.num * x.den)
      → Contains (f ∷ rest) x
  listed x from (inl more) =
      contains-later x (h.every x (record {
        up_to = from.up_to;
        least = none_between order f.num f.den g.num g.den x.num x.den n.unit n.far from.up_to.small more;
      }))
  listed x from (inr least) =
      let same = lowest_terms_unique f x (first.up_to.angle) from.up_to.angle (let at = from.least in omega arith) in
      (0, omega arith, same)

  list-more : AreFrom order f (f ∷ rest)
  list-more = record {
    angles = All-cons (IsFrom order f) f rest first (All-weaker (IsFrom order g) (IsFrom order f) later rest h.angles);
    every = λ x from. listed x from (cases_lt (f.num * x.den) (x.num * f.den));
    rising = AllPairs-cons IsBelow f rest (All-weaker (IsFrom order g) (IsBelow f) above rest h.angles) h.rising;
  }

list_from : (order steps : ℕ) (f g : Fraction) → AreNeighbours order f g → order ≤ 2 ^ 31
    → SufficeFrom order steps f.num f.den → AreFrom order f (fractions_from order steps f g)
list_from order zero f g n few enough =
    let over = none-left order f.num f.den
    (let some = n.some_first in let small = n.small_first in omega arith) enough in
    subst (AreFrom order f) (sym (from-none order f g)) (list-end order f n.some_first over)
list_from order (suc steps) f g n few enough =
    by_end (λ below. list_from order steps g (following order f g) (neighbours-next order f g n below) few
    (suffice-next order steps f.num f.den g.num g.den n.unit n.some_first n.small_first n.small_second enough))
    (cases_lt f.num f.den)
  where
    by_end : (f.num < f.den → AreFrom order g (fractions_from order steps g (following order f g)))
        → (f.num < f.den) ⊎ (f.den ≤ f.num) → AreFrom order f (fractions_from order (suc steps) f g)
    by_end after (inr over) = subst (AreFrom order f) (sym (from-end order (suc steps) f g over))
        (list-end order f n.some_first over)
    by_end after (inl below) =
        subst (AreFrom order f) (sym (from-more order steps f g below))
        (list-more order f g (fractions_from order steps g (following order f g)) n below few (after below))

-- the first two fractions
pub neighbours-start : (order : ℕ) → 0 < order
    → AreNeighbours order (record { num = 0; den = 1 }) (record { num = 1; den = order })
neighbours-start order some = record {
  some_first = omega arith;
  some_second = some;
  small_first = omega arith;
  small_second = omega arith;
  within = omega arith;
  unit = omega arith;
  far = omega arith;
}

-- From 0 on the list has the angles up to the order.
pub all_angles : (order : ℕ) → 0 < order → order ≤ 2 ^ 31
    → AreAnglesUpTo order
    (fractions_from order (order * order) (record { num = 0; den = 1 }) (record { num = 1; den = order }))
all_angles order some few =
    let zero_angle : Fraction = record { num = 0; den = 1 } in
    let second : Fraction = record { num = 1; den = order } in
    let list = fractions_from order (order * order) zero_angle second in
    let from = list_from order (order * order) zero_angle second (neighbours-start order some) few
    (suffice-square order 0 1) in
    record {
      angles = All-weaker (IsFrom order zero_angle) (IsAngleUpTo order) (λ x is. is.up_to) list from.angles;
      every = λ x up_to. from.every x (record { up_to = up_to; least = omega arith });
      rising = from.rising;
    }

-- There are no more fractions than steps.
pub few_fractions : (order steps : ℕ) (f g : Fraction) → length (fractions_from order steps f g) ≤ steps
few_fractions order zero f g = rw (from-none order f g) (omega arith)
few_fractions order (suc steps) f g = by_end (few_fractions order steps g (following order f g)) (cases_lt f.num f.den)
  where
    by_end : length (fractions_from order steps g (following order f g)) ≤ steps → (f.num < f.den) ⊎ (f.den ≤ f.num)
        → length (fractions_from order (suc steps) f g) ≤ suc steps
    by_end rest (inr over) = rw (from-end order (suc steps) f g over) (omega arith)
    by_end rest (inl below) =
        rw (from-more order steps f g below) (omega arith)
