-- Two lists beside each other.
use Rattle.std.proofs.Common.{◌≡◌, ◌<◌, ◌+◌, ℕ, zero, suc, List, [], ◌∷◌, ◌++◌, length, get_or, take, refl, ap, arith}
use Rattle.std.specs.List.{AllZip}
use Rattle.std.proofs.lemmas.List.{take_more}
use Rattle.ce_rows.proofs.General.{zip_push}

module _ {X Y : Type 0} (R : X → Y → Type 0) where
  -- one more element of the first list, and its partner
  pub zip_more : (xs : List X) (ys : List Y) (i : ℕ) (d : X) (y : Y) → i < length xs → AllZip R (take i xs) ys
      → R (get_or xs i d) y → AllZip R (take (i + 1) xs) (ys ++ y ∷ [])
  zip_more xs ys i d y within h r =
      rw (take_more xs i d within) (zip_push R (take i xs) ys (get_or xs i d) y h r)

  pub zip-length : (xs : List X) (ys : List Y) → AllZip R xs ys → length xs ≡ length ys
  zip-length [] [] h = refl
  zip-length [] (y ∷ ys) h = absurd h
  zip-length (x ∷ xs) [] h = absurd h
  zip-length (x ∷ xs) (y ∷ ys) h = ap suc (zip-length xs ys h.1)

  pub zip-at : (xs : List X) (ys : List Y) (i : ℕ) (d : X) (e : Y) → AllZip R xs ys → i < length xs
      → R (get_or xs i d) (get_or ys i e)
  zip-at [] ys i d e h within = absurd (omega arith)
  zip-at (x ∷ xs) [] i d e h within = absurd h
  zip-at (x ∷ xs) (y ∷ ys) zero d e h within = h.0
  zip-at (x ∷ xs) (y ∷ ys) (suc i) d e h within = zip-at xs ys i d e h.1 (omega arith)
