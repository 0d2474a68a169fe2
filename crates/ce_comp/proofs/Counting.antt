-- How many numbers below another one have a property.
use Rattle.std.proofs.Common.{◌≡◌, ◌≢◌, ◌<◌, ◌≤◌, ◌↔◌, ℕ, zero, suc, List, get_or, inl, inr, sym, subst, arith}
use Rattle.std.proofs.lemmas.Bool.{cases_eq}
use Rattle.ce_comp.specs.SettlingInside.{IsCount}

-- as many have a property that holds of the same ones
pub count_same : (P Q : ℕ → Type 0) (m n : ℕ) → ((k : ℕ) → k < m → P k ↔ Q k) → IsCount P m n → IsCount Q m n
count_same P Q zero n same h = h
count_same P Q (suc m) n same (inl (none, rest)) =
    inl (λ q. none ((same m (omega arith)).1 q), count_same P Q m n (λ k less. same k (omega arith)) rest)
count_same P Q (suc m) n same (inr (some, k, is, rest)) =
    inr ((same m (omega arith)).0 some, k, is, count_same P Q m k (λ i less. same i (omega arith)) rest)

-- and one less have one that holds of the same ones but j
pub count_less : (P Q : ℕ → Type 0) (m j n : ℕ) → j < m → P j → (Q j → ⊥)
    → ((k : ℕ) → k < m → k ≢ j → P k ↔ Q k) → IsCount P m n → (l : ℕ) × (n ≡ suc l) × IsCount Q m l
count_less P Q zero j n less here gone same h = absurd (omega arith)
count_less P Q (suc m) j n less here gone same (inl (none, rest)) =
    let other : j ≢ m = λ e. none (subst P e here) in
    let (l, is, more) = count_less P Q m j n (omega arith) here gone (λ k under apart. same k (omega arith) apart)
    rest in
    (l, is, inl (λ q. none ((same m (omega arith) (λ e. other (sym e))).1 q), more))
count_less P Q (suc m) j n less here gone same (inr (some, k, is, rest)) = elim (cases_eq j m) [
  | inl last ↦ (
    k,
    is,
    inl (
      subst (λ i. Q i → ⊥) last gone,
      count_same P Q m k
          (λ i under. same i (omega arith) (λ e. omega arith)) rest,
    ),
  )
  | inr other ↦
      let (l, is_more, more) = count_less P Q m j k (omega arith) here gone
      (λ i under apart. same i (omega arith) apart) rest in
      (k, is, inr ((same m (omega arith) (λ e. other (sym e))).0 some, l, is_more, more))
]

-- where there are none, no number has the property, and the other way round
pub count_none : (P : ℕ → Type 0) (m n k : ℕ) → IsCount P m n → n ≡ 0 → k < m → P k → ⊥
count_none P zero n k h is less here = omega arith
count_none P (suc m) n k (inl (none, rest)) is less here = elim (cases_eq k m) [
  | inl last ↦ none (subst P last here)
  | inr other ↦ count_none P m n k rest is (omega arith) here
]
count_none P (suc m) n k (inr (some, l, e, rest)) is less here = omega arith

pub count_zero : (P : ℕ → Type 0) (m n : ℕ) → IsCount P m n → ((k : ℕ) → k < m → P k → ⊥) → n ≡ 0
count_zero P zero n h none = h
count_zero P (suc m) n (inl (here, rest)) none = count_zero P m n rest (λ k less. none k (omega arith))
count_zero P (suc m) n (inr (some, l, e, rest)) none = absurd (none m (omega arith) some)

pub count_few : (P : ℕ → Type 0) (m n : ℕ) → IsCount P m n → n ≤ m
count_few P zero n h = omega arith
count_few P (suc m) n (inl (none, rest)) = let few = count_few P m n rest in omega arith
count_few P (suc m) n (inr (some, k, e, rest)) = let few = count_few P m k rest in omega arith

-- how often each number stands in the front of a list
abbrev pub AreCounts : List ℕ → List ℕ → ℕ → ℕ → Type 0
AreCounts xs left count i = (c : ℕ) → c < count → IsCount (λ k. get_or xs k 0 ≡ c) i (get_or left c 0)
