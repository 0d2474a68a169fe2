-- What a collected list of results says, item by item.
use Rattle.std.proofs.Common.{◌≡◌, List, [], ◌∷◌, Result, Ok, Err, IfOk, MatchResult, map, sym, subst}
use Rattle.std.specs.Prelude.{Contains}
use Rattle.std.specs.List.{AllZip}

-- Each item has an `Ok`.
all_ok : {X Y E : Type 0} (P : X → Result Y E → Type 0) (xs : List X) (ys : List Y) → AllZip P xs (map Ok ys)
    → AllZip (λ x y. P x (Ok y)) xs ys
all_ok P [] [] h = tt
all_ok P [] (y ∷ ys) h = absurd h
all_ok P (x ∷ xs) [] h = absurd h
all_ok P (x ∷ xs) (y ∷ ys) h = (h.0, all_ok P xs ys h.1)

-- what `collect` into a `Result` gives, where each item has a result with P
pub collected_ok : {X Y E V : Type 0} (P : X → Result Y E → Type 0) (items : V → List Y) (xs : List X)
    (rs : List (Result Y E)) (r : Result V E) → AllZip P xs rs
    → MatchResult r (λ v. (ys : List Y) × (rs ≡ map Ok ys) × (items v ≡ ys)) (λ e. Contains rs (Err e))
    → IfOk r (λ v. AllZip (λ x y. P x (Ok y)) xs (items v))
collected_ok P items xs rs (Ok v) h m =
    subst (AllZip (λ x y. P x (Ok y)) xs) (sym m.2) (all_ok P xs m.0 (subst (AllZip P xs) m.1 h))
collected_ok P items xs rs (Err e) h m = tt
