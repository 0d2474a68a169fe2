-- There is one list of the angles up to an order.
use Rattle.std.proofs.Common.{◌≡◌, ◌⊎◌, ◌∙◌, inl, inr, ℕ, zero, suc, List, [], ◌∷◌, refl, sym, ap, subst, arith}
use Rattle.std.specs.Prelude.{Contains}
use Rattle.std.specs.List.{AllPairs}
use Rattle.std.proofs.lemmas.List.Elements.{All-contains}
use Rattle.ce_angle.specs.Fraction.{Fraction}
use Rattle.ce_angle.specs.Order.{IsBelow}
use Rattle.ce_angle.specs.Farey.{IsAngleUpTo, AreAnglesUpTo}

-- what is in a list is its first element or in the rest
pub in_list : (x y : Fraction) (xs : List Fraction) → Contains (x ∷ xs) y → (x ≡ y) ⊎ Contains xs y
in_list x y xs (zero, within, here) = inl here
in_list x y xs (suc k, within, here) = inr (k, omega arith, here)

-- the first element of a rising list is below all later ones
pub rest_above : (x y : Fraction) (xs : List Fraction) → AllPairs IsBelow (x ∷ xs) → Contains xs y → IsBelow x y
rest_above x y xs rising (k, within, here) =
    subst (IsBelow x) here (rising 0 (suc k) y (omega arith) (omega arith))

pub rest_rising : (x : Fraction) (xs : List Fraction) → AllPairs IsBelow (x ∷ xs) → AllPairs IsBelow xs
rest_rising x xs rising i j d order within = rising (suc i) (suc j) d (omega arith) (omega arith)

abbrev pub AreWithin : List Fraction → List Fraction → Type 0
AreWithin xs ys = (x : Fraction) → Contains xs x → Contains ys x

-- the first elements of rising lists with the same elements
first_same : (x y : Fraction) (xs ys : List Fraction) → AllPairs IsBelow (x ∷ xs) → AllPairs IsBelow (y ∷ ys)
    → AreWithin (x ∷ xs) (y ∷ ys) → AreWithin (y ∷ ys) (x ∷ xs) → x ≡ y
first_same x y xs ys left right there back =
    by_place (in_list y x ys (there x (0, omega arith, refl))) (in_list x y xs (back y (0, omega arith, refl)))
  where
    by_place : (y ≡ x) ⊎ Contains ys x → (x ≡ y) ⊎ Contains xs y → x ≡ y
    by_place (inl same) _ = sym same
    by_place (inr later) (inl same) = same
    by_place (inr later) (inr after) =
        let up = rest_above y x ys right later in
        let down = rest_above x y xs left after in
        absurd (omega (arith, up, down))

rest_within : (x y : Fraction) (xs ys : List Fraction) → x ≡ y → AllPairs IsBelow (x ∷ xs)
    → AreWithin (x ∷ xs) (y ∷ ys) → AreWithin xs ys
rest_within x y xs ys first left there z (k, within, here) =
    by_place (in_list y z ys (there z (suc k, omega arith, here)))
  where
    by_place : (y ≡ z) ⊎ Contains ys z → Contains ys z
    by_place (inr later) = later
    by_place (inl same) =
        let above = rest_above x z xs left (k, within, here) in
        let again : IsBelow z z = subst (λ f. IsBelow f z) (first ∙ same) above in
        absurd (omega (arith, again))

pub one_rising : (xs ys : List Fraction) → AllPairs IsBelow xs → AllPairs IsBelow ys → AreWithin xs ys
    → AreWithin ys xs → xs ≡ ys
one_rising [] [] left right there back = refl
one_rising [] (y ∷ ys) left right there back =
    let none = back y (0, omega arith, refl) in absurd (omega (arith, none.1))
one_rising (x ∷ xs) [] left right there back =
    let none = there x (0, omega arith, refl) in absurd (omega (arith, none.1))
one_rising (x ∷ xs) (y ∷ ys) left right there back =
    let first = first_same x y xs ys left right there back in
    let rest = one_rising xs ys (rest_rising x xs left) (rest_rising y ys right)
    (rest_within x y xs ys first left there) (rest_within y x ys xs (sym first) right back) in
    ap (λ z. z ∷ xs) first ∙ ap (λ zs. y ∷ zs) rest

pub one_list : (order : ℕ) (xs ys : List Fraction) → AreAnglesUpTo order xs → AreAnglesUpTo order ys → xs ≡ ys
one_list order xs ys left right =
    one_rising xs ys left.rising right.rising
    (λ x in_xs. right.every x (All-contains (IsAngleUpTo order) xs x left.angles in_xs))
    (λ y in_ys. left.every y (All-contains (IsAngleUpTo order) ys y right.angles in_ys))
