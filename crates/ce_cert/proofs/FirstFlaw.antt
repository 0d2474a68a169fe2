-- A certificate holds, or it has a first flaw: all that is asked of it can be tested.
use Rattle.std.proofs.Common.{◌≡◌, ◌≢◌, ◌<◌, ◌≤◌, ◌*◌, ◌^◌, ◌⊎◌, inl, inr, ℕ, zero, suc, List, [], ◌∷◌, length}
use Rattle.std.proofs.Common.{subst, arith}
use Rattle.std.specs.Prelude.{All, Contains, slice_index}
use Rattle.std.proofs.lemmas.Bool.{cases_lt}
use Rattle.std.proofs.lemmas.List.Elements.{All-nil, All-cons, All-head, All-tail, Contains-append_right}
use Rattle.ce_rows.specs.Blocks.{IsRanking}
use Rattle.ce_rows.specs.Rows.{ScaledRows, successors_in}
use Rattle.ce_rows.specs.declared.row.Row.{Row}
use Rattle.ce_cert.specs.Certificate.{Evidence, HasLengths, HasRanking, HasEntries, IsCertificate, IsLowVector}
use Rattle.ce_cert.specs.Certificate.{IsHighVector, IsPositive}
use Rattle.ce_cert.specs.Evidence.{IsFirstFlaw}
use Rattle.ce_cert.specs.Quotients.{scaled_sum}
use Rattle.ce_cert.specs.declared.certificate.Flaw.{Flaw}
use Rattle.ce_cert.specs.declared.certificate.Flaw.TheVariants as flaw

-- It holds, or it does not.
abbrev pub Test : Type 0 → Type 0
Test P = P ⊎ (¬ P)

pub below_or_not : (m n : ℕ) → Test (m < n)
below_or_not m n = elim (cases_lt m n) [
  | inl less ↦ inl less
  | inr most ↦ inr (λ less. omega (arith, less, most))
]

pub most_or_not : (m n : ℕ) → Test (m ≤ n)
most_or_not m n = elim (cases_lt n m) [
  | inl less ↦ inr (λ most. omega (arith, less, most))
  | inr most ↦ inl most
]

pub same_or_not : (m n : ℕ) → Test (m ≡ n)
same_or_not m n = elim (cases_lt m n) [
  | inl less ↦ inr (λ same. omega (arith, less, same))
  | inr most ↦ elim (cases_lt n m) [
    | inl less ↦ inr (λ same. omega (arith, less, same))
    | inr least ↦ inl (omega (arith, most, least))
  ]
]

-- both of two, and one where another one holds
module _ (P Q : Type 0) where
  pub both : Test P → Test Q → Test (P × Q)
  both (inl p) (inl q) = inl (p, q)
  both (inl p) (inr none) = inr (λ h. none h.1)
  both (inr none) q = inr (λ h. none h.0)

  if_so : Test P → Test Q → Test (P → Q)
  if_so p (inl q) = inl (λ _. q)
  if_so (inl p) (inr none) = inr (λ h. none (h p))
  if_so (inr none) (inr _) = inl (λ p. absurd (none p))

  pub test_by : (P → Q) → (Q → P) → Test P → Test Q
  test_by to from (inl p) = inl (to p)
  test_by to from (inr none) = inr (λ q. none (from q))

-- all numbers below a bound
pub each_below : (P : ℕ → Type 0) → ((n : ℕ) → Test (P n)) → (bound : ℕ) → Test ((n : ℕ) → n < bound → P n)
each_below P test zero = inl (λ n less. absurd (omega (arith, less)))
each_below P test (suc bound) = go (test bound) (each_below P test bound)
  where
    go : Test (P bound) → Test ((n : ℕ) → n < bound → P n) → Test ((n : ℕ) → n < suc bound → P n)
    go (inl here) (inl before) = inl (λ n less. elim (cases_lt n bound) [
      | inl small ↦ before n small
      | inr large ↦ let same : bound ≡ n = omega (arith, less, large) in subst P same here
    ])
    go (inl here) (inr none) = inr (λ all. none (λ n less. all n (omega (arith, less))))
    go (inr none) before = inr (λ all. none (all bound (omega arith)))

-- all elements of a list, and one of them
pub all_or_not : {X : Type 0} (P : X → Type 0) → ((x : X) → Test (P x)) → (xs : List X) → Test (All P xs)
all_or_not P test [] = inl (All-nil P)
all_or_not P test (x ∷ xs) = go (test x) (all_or_not P test xs)
  where
    go : Test (P x) → Test (All P xs) → Test (All P (x ∷ xs))
    go (inl here) (inl rest) = inl (All-cons P x xs here rest)
    go (inl here) (inr none) = inr (λ all. none (All-tail P x xs all))
    go (inr none) rest = inr (λ all. none (All-head P x xs all))

none_of : (y : ℕ) (ys : List ℕ) (x : ℕ) → y ≢ x → ¬ (Contains ys x) → ¬ (Contains (y ∷ ys) x)
none_of y ys x other none (zero, less, is) = other is
none_of y ys x other none (suc i, less, is) = none (i, omega (arith, less), is)

contains_or_not : (xs : List ℕ) (x : ℕ) → Test (Contains xs x)
contains_or_not [] x = inr (λ h. let less = h.1 in omega (arith, less))
contains_or_not (y ∷ ys) x = go (same_or_not y x) (contains_or_not ys x)
  where
    go : Test (y ≡ x) → Test (Contains ys x) → Test (Contains (y ∷ ys) x)
    go (inl same) rest = inl (0, omega arith, same)
    go (inr other) (inl rest) = inl (Contains-append_right (y ∷ []) ys x rest)
    go (inr other) (inr none) = inr (none_of y ys x other none)

ranking_or_not : (list : List Row) (ranks : List ℕ) → Test (IsRanking list ranks)
ranking_or_not list ranks =
    let Below = All (λ rank. rank < length list) ranks in
    let Rises : ℕ → Type 0 = λ i. All (λ j. slice_index ranks j ≤ slice_index ranks i) (successors_in list i) in
    let below = all_or_not (λ rank. rank < length list) (λ rank. below_or_not rank (length list)) ranks in
    let rises =
    each_below Rises
    (λ i. all_or_not (λ j. slice_index ranks j ≤ slice_index ranks i)
    (λ j. most_or_not (slice_index ranks j) (slice_index ranks i)) (successors_in list i)) (length list) in
    test_by (◌≡◌ (length ranks) (length list) × (Below × ((i : ℕ) → i < length list → Rises i)))
    (IsRanking list ranks) (λ h. record { each = h.0; below = h.1.0; never_rises = h.1.1 })
    (λ h. (h.each, (h.below, h.never_rises)))
    (both _ _ (same_or_not (length ranks) (length list)) (both _ _ below rises))

positive_or_not : (v : List ℕ) → Test (IsPositive v)
positive_or_not v =
    test_by (All (λ x. 1 ≤ x) v × All (λ x. x < 2 ^ 62) v) (IsPositive v)
    (λ h. record { positive = h.0; small = h.1 }) (λ h. (h.positive, h.small))
    (both _ _ (all_or_not (λ x. 1 ≤ x) (λ x. most_or_not 1 x) v)
    (all_or_not (λ x. x < 2 ^ 62) (λ x. below_or_not x (2 ^ 62)) v))

module _ (rows : ScaledRows) (e : Evidence) where
  lengths_or_not : Test (HasLengths rows e)
  lengths_or_not =
      let rows_are = length rows.list in
      test_by (◌≡◌ (length e.ranks) rows_are
      × (◌≡◌ (length e.low_vector) rows_are × ◌≡◌ (length e.high_vector) rows_are)) (HasLengths rows e)
      (λ h. record { ranks = h.0; low_vector = h.1.0; high_vector = h.1.1 })
      (λ h. (h.ranks, (h.low_vector, h.high_vector)))
      (both _ _ (same_or_not (length e.ranks) rows_are)
      (both _ _ (same_or_not (length e.low_vector) rows_are) (same_or_not (length e.high_vector) rows_are)))

  ranks_or_not : Test (HasRanking rows e)
  ranks_or_not =
      test_by (IsRanking rows.list e.ranks × Contains e.ranks e.low_rank) (HasRanking rows e)
      (λ h. record { ranking = h.0; low_rank = h.1 }) (λ h. (h.ranking, h.low_rank))
      (both _ _ (ranking_or_not rows.list e.ranks) (contains_or_not e.ranks e.low_rank))

  entries_or_not : Test (HasEntries e)
  entries_or_not =
      test_by ((IsPositive e.low_vector × IsPositive e.high_vector) × ((e.low < 2 ^ 62) × (e.high < 2 ^ 62)))
      (HasEntries e)
      (λ h. record { low_vector = h.0.0; high_vector = h.0.1; low = h.1.0; high = h.1.1 })
      (λ h. ((h.low_vector, h.high_vector), (h.low, h.high)))
      (both _ _ (both _ _ (positive_or_not e.low_vector) (positive_or_not e.high_vector))
      (both _ _ (below_or_not e.low (2 ^ 62)) (below_or_not e.high (2 ^ 62))))

  low_or_not : Test (IsLowVector rows e.ranks e.low_rank e.low_vector e.low)
  low_or_not =
      let Ranked : ℕ → Type 0 = λ i. slice_index e.ranks i ≡ e.low_rank in
      let Shown : ℕ → Type 0 = λ i. e.low * slice_index e.low_vector i ≤ scaled_sum rows e.ranks e.low_vector i in
      each_below (λ i. Ranked i → Shown i)
      (λ i. if_so (Ranked i) (Shown i) (same_or_not (slice_index e.ranks i) e.low_rank)
      (most_or_not (e.low * slice_index e.low_vector i) (scaled_sum rows e.ranks e.low_vector i)))
      (length rows.list)

  high_or_not : Test (IsHighVector rows e.ranks e.high_vector e.high)
  high_or_not =
      each_below (λ i. scaled_sum rows e.ranks e.high_vector i ≤ e.high * slice_index e.high_vector i)
      (λ i. most_or_not (scaled_sum rows e.ranks e.high_vector i) (e.high * slice_index e.high_vector i))
      (length rows.list)

  -- what is asked, in the order of its flaws
  pub holds_or_flaw : IsCertificate rows e ⊎ ((f : Flaw) × IsFirstFlaw rows e f)
  holds_or_flaw = elim lengths_or_not [
    | inr none ↦ inr (flaw.Length, none)
    | inl lengths ↦ elim ranks_or_not [
      | inr none ↦ inr (flaw.Rank, (lengths, none))
      | inl ranking ↦ elim entries_or_not [
        | inr none ↦ inr (flaw.Entry, (lengths, ranking, none))
        | inl entries ↦ elim low_or_not [
          | inr none ↦ inr (flaw.Low, (lengths, ranking, entries, none))
          | inl low ↦ elim high_or_not [
            | inr none ↦ inr (flaw.High, (lengths, ranking, entries, low, none))
            | inl high ↦ inl
                (record { lengths = lengths; ranking = ranking; entries = entries; low = low; high = high })
          ]
        ]
      ]
    ]
  ]
