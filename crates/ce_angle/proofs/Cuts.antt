-- A text is cut at its first separator in one way.
use Rattle.std.proofs.Common.{◌≡◌, ◌≢◌, ◌==◌, ℕ, true, false, not, List, [], ◌∷◌, ◌++◌, get_or, refl, sym, ◌∙◌, arith}
use Rattle.std.specs.List.{list_all}
use Rattle.std.proofs.lemmas.Bool.{false≢true}
use Rattle.std.proofs.lemmas.Bool.Decides.{nat_tests}
use Rattle.std.proofs.lemmas.List.Elements.{All-head, All-tail}
use Rattle.std.proofs.lemmas.List.Folds.{list_all_at}
use Rattle.ce_angle.specs.Cuts.{Lacks}

pub lacks_by_test : (byte : ℕ) (text : List ℕ) → list_all (λ other. not (other == byte)) text ≡ true → Lacks byte text
lacks_by_test byte text h k d within same =
    let met : not (get_or text k d == byte) ≡ false = grind (arith, nat_tests) in
    false≢true (sym (list_all_at (λ other. not (other == byte)) text k d within met) ∙ h)

head_differs : (byte x : ℕ) (xs : List ℕ) → Lacks byte (x ∷ xs) → x ≢ byte
head_differs byte x xs lacks = All-head (λ other. other ≢ byte) x xs lacks

tail_lacks : (byte x : ℕ) (xs : List ℕ) → Lacks byte (x ∷ xs) → Lacks byte xs
tail_lacks byte x xs lacks = All-tail (λ other. other ≢ byte) x xs lacks

-- two cuts of a text are the same
pub record IsSameCut (a b c d : List ℕ) : Type 0 where
  pub before : a ≡ c
  pub after : b ≡ d

pub cut_unique : (byte : ℕ) (a b c d : List ℕ) → Lacks byte a → Lacks byte c → a ++ byte ∷ b ≡ c ++ byte ∷ d
    → IsSameCut a b c d
cut_unique byte [] b [] d left right same = record { before = refl; after = cc }
cut_unique byte [] b (y ∷ ys) d left right same = absurd (head_differs byte y ys right (cc))
cut_unique byte (x ∷ xs) b [] d left right same = absurd (head_differs byte x xs left (cc))
cut_unique byte (x ∷ xs) b (y ∷ ys) d left right same =
    let rest = cut_unique byte xs b ys d (tail_lacks byte x xs left) (tail_lacks byte y ys right) (cc) in
    let before = rest.before in
    record { before = cc; after = rest.after }

-- a text without the separator is not cut
pub cut_not : (byte : ℕ) (a b text : List ℕ) → Lacks byte text → text ≡ a ++ byte ∷ b → ⊥
cut_not byte [] b [] lacks same = absurd (cc)
cut_not byte (y ∷ ys) b [] lacks same = absurd (cc)
cut_not byte [] b (x ∷ xs) lacks same = head_differs byte x xs lacks (cc)
cut_not byte (y ∷ ys) b (x ∷ xs) lacks same = cut_not byte ys b xs (tail_lacks byte x xs lacks) (cc)
