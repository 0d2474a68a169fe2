-- Bytes that a sink takes in turn.
use Rattle.std.proofs.Common.{◌≡◌, ◌∙◌, ℕ, ◌+◌, ◌-◌, List, [], ◌++◌, length, take, drop, Option, Some, None}
use Rattle.std.proofs.Common.{sym, ap, append_assoc, arith}
use Rattle.std.proofs.Math.Seq.{take-add}
use Rattle.std.proofs.lemmas.Grind.{common_steps}
use Rattle.std.proofs.lemmas.List.{append-nil, take-append-drop}
use Rattle.ce_port.specs.Sink.{GrewBy}
use Rattle.ce_port.specs.WriteAll.{GrewByPrefix}

-- the rest of a text from a place on, as a slice of it
pub rest_from : (i : ℕ) (xs : List ℕ) → take (length xs - i) (drop i xs) ≡ drop i xs
rest_from i xs = grind (arith, common_steps)

pub GrewBy-trans : (a b c : Option (List ℕ)) (xs ys : List ℕ) → GrewBy a b xs → GrewBy b c ys → GrewBy a c (xs ++ ys)
GrewBy-trans a b None xs ys h k = tt
GrewBy-trans a None (Some w) xs ys h k = absurd k
GrewBy-trans None (Some v) (Some w) xs ys h k = absurd h
GrewBy-trans (Some u) (Some v) (Some w) xs ys h k = k ∙ ap (λ l. l ++ ys) h ∙ append_assoc u xs ys

-- after the first i bytes, n more
pub GrewBy-more : (a b c : Option (List ℕ)) (i n : ℕ) (xs : List ℕ) → GrewBy a b (take i xs)
    → GrewBy b c (take n (drop i xs)) → GrewBy a c (take (i + n) xs)
GrewBy-more a b c i n xs h k = rw take-add (GrewBy-trans a b c (take i xs) (take n (drop i xs)) h k)

-- the first i bytes, and then nothing
pub GrewByPrefix-stopped : (a b c : Option (List ℕ)) (i : ℕ) (xs : List ℕ) → GrewBy a b (take i xs) → GrewBy b c []
    → GrewByPrefix a c xs
GrewByPrefix-stopped a b c i xs h k =
    let grew = GrewBy-trans a b c (take i xs) [] h k in
    (take i xs, (drop i xs, sym (take-append-drop i xs)), rw (append-nil (take i xs)) at grew)
