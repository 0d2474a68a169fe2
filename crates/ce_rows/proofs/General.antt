-- Lemmas that are about no rows: of numbers, options and pairs of lists.
use Rattle.std.proofs.Common.{◌≡◌, ℕ, max, min, inl, inr, Option, None, Some, List, [], ◌∷◌, ◌++◌, subst, sym, arith}
use Rattle.std.specs.List.{AllZip}
use Rattle.std.specs.Option.{IfNone}
use Rattle.std.proofs.lemmas.Bool.{cases_lt}

-- What is true of two numbers is true of the greater and of the lesser.
pub greater_of : (P : ℕ → Type 0) (a b : ℕ) → P a → P b → P (max a b)
greater_of P a b pa pb = elim (cases_lt a b) [
  | inl less ↦ let same : max a b ≡ b = omega arith in subst P (sym same) pb
  | inr most ↦ let same : max a b ≡ a = omega arith in subst P (sym same) pa
]

pub lesser_of : (P : ℕ → Type 0) (a b : ℕ) → P a → P b → P (min a b)
lesser_of P a b pa pb = elim (cases_lt a b) [
  | inl less ↦ let same : min a b ≡ a = omega arith in subst P (sym same) pa
  | inr most ↦ let same : min a b ≡ b = omega arith in subst P (sym same) pb
]

-- Where none is found, more is true.
pub none_then : {X : Type 0} (found : Option X) (P Q : Type 0) → (P → Q) → IfNone found P → IfNone found Q
none_then None P Q more h = more h
none_then (Some x) P Q more h = tt

-- Lists in step, and one more pair at their ends.
pub zip_push : {X Y : Type 0} (R : X → Y → Type 0) (xs : List X) (ys : List Y) (x : X) (y : Y)
    → AllZip R xs ys → R x y → AllZip R (xs ++ x ∷ []) (ys ++ y ∷ [])
zip_push R [] [] x y zip last = (last, tt)
zip_push R [] (b ∷ bs) x y zip last = absurd zip
zip_push R (a ∷ xs) [] x y zip last = absurd zip
zip_push R (a ∷ xs) (b ∷ bs) x y zip last = (zip.0, zip_push R xs bs x y zip.1 last)
