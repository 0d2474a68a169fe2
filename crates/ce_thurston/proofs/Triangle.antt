-- The indices of pairs: those below the place j are the numbers below j(j-1)/2.
use Rattle.std.proofs.Common.{◌≡◌, ◌≢◌, ◌<◌, ◌≤◌, ◌+◌, ◌-◌, ◌*◌, ◌/◌, ◌∙◌, ◌⊎◌, inl, inr, ℕ, zero, suc, true, false}
use Rattle.std.proofs.Common.{refl, ap, arith, add-zero}
use Rattle.std.specs.Prelude.{nat_lt}
use Rattle.std.proofs.lemmas.Bool.{cases_lt, cases_order}
use Rattle.std.proofs.lemmas.Bool.Decides.{nat_tests}
use Rattle.std.proofs.Math.Nat.{add-mul-div_right}
use Rattle.ce_thurston.specs.PortraitRows.{index_of, index_between}

-- how many pairs the first places have
abbrev pub pair_count : ℕ → ℕ
pair_count j = j * (j - 1) / 2

numerator-suc : (j : ℕ) → suc j * (suc j - 1) ≡ j * (j - 1) + j * 2
numerator-suc zero = refl
numerator-suc (suc m) =
    let a : suc (suc m) - 1 ≡ suc m = omega arith in
    let b : suc m - 1 ≡ m = omega arith in
    rw (a, b) (omega arith)

pub pair_count-suc : (j : ℕ) → pair_count (suc j) ≡ pair_count j + j
pair_count-suc j = ap (λ n. n / 2) (numerator-suc j) ∙ add-mul-div_right (j * (j - 1)) j (omega arith)

-- more places have no fewer pairs
pub pair_count-le : (j d : ℕ) → pair_count j ≤ pair_count (j + d)
pair_count-le j zero = rw (add-zero j) (omega arith)
pair_count-le j (suc d) =
    let less = pair_count-le j d in
    let step = pair_count-suc (j + d) in
    let shift : j + suc d ≡ suc (j + d) = omega arith in
    rw (shift) (omega arith)

pub pair_count-mono : (j n : ℕ) → j ≤ n → pair_count j ≤ pair_count n
pair_count-mono j n h = let same : j + (n - j) ≡ n = omega arith in rw same at (pair_count-le j (n - j))

pub index-below : (i j n : ℕ) → i < j → j < n → index_of i j < pair_count n
index-below i j n below within =
    let step = pair_count-suc j in
    let more = pair_count-mono (suc j) n (omega arith) in
    omega arith

pub few_pairs : (n : ℕ) → n ≤ 128 → pair_count n ≤ 8128
few_pairs n h = pair_count-mono n 128 h

pub some_pairs : (n : ℕ) → 2 ≤ n → 0 < pair_count n
some_pairs n h = let more = pair_count-mono 2 n h in omega arith

pub between-lower : (i j : ℕ) → i < j → index_between i j ≡ index_of i j
between-lower i j h = let test : nat_lt i j ≡ true = grind (arith, nat_tests) in rw test refl

pub between-upper : (i j : ℕ) → j ≤ i → index_between i j ≡ index_of j i
between-upper i j h = let test : nat_lt i j ≡ false = grind (arith, nat_tests) in rw test refl

pub between-below : (i j n : ℕ) → i ≢ j → i < n → j < n → index_between i j < pair_count n
between-below i j n apart left right = by_order (cases_lt i j)
  where
    by_order : (i < j) ⊎ (j ≤ i) → index_between i j < pair_count n
    by_order (inl h) = rw (between-lower i j h) (index-below i j n h right)
    by_order (inr h) = rw (between-upper i j h) (index-below j i n (omega arith) left)

-- An index is that of one pair of places alone.
pub one_pair_of_index : (i j a b : ℕ) → i < j → a < b → index_of i j ≡ index_of a b → (i ≡ a) × (j ≡ b)
one_pair_of_index i j a b left right same = by_order (cases_order j b)
  where
    by_order : (j ≡ b) ⊎ ((j < b) ⊎ (b < j)) → (i ≡ a) × (j ≡ b)
    by_order (inl e) = let count = ap pair_count e in (omega arith, e)
    by_order (inr (inl less)) = let below = index-below i j b left less in absurd (omega arith)
    by_order (inr (inr more)) = let below = index-below a b j right more in absurd (omega arith)
