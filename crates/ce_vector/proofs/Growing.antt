-- A round over the vertices that grow is a round of power iteration.
use Rattle.std.proofs.Common.{◌≡◌, ◌<◌, ◌+◌, ◌∙◌, ℕ, List, length, get_or, set, sym, ap, subst, inl, inr, arith}
use Rattle.std.proofs.Common.{get_or-set_same, get_or-set_other}
use Rattle.std.proofs.lemmas.Bool.{cases_eq, cases_lt}
use Rattle.std.proofs.lemmas.List.{get_or_default}
use Rattle.std.specs.Prelude.{◌⊎◌, sum_by, slice_index}
use Rattle.ce_rows.specs.Blocks.{block_sum_of}
use Rattle.ce_rows.specs.declared.row.Row.{Row}
use Rattle.ce_vector.specs.GrowingInside.{AreGrowing, AgreeAtRest}

-- Each entry is the one of an old vector, or its new one, and at the first so many listed places
-- it is the new one.
abbrev pub IsEachOldOrNew : (ℕ → ℕ) → List ℕ → List ℕ → Type 0
IsEachOldOrNew new old v = (j : ℕ) → (get_or v j 0 ≡ get_or old j 0) ⊎ (get_or v j 0 ≡ new j)

abbrev pub AreFirstNew : (ℕ → ℕ) → List ℕ → List ℕ → ℕ → Type 0
AreFirstNew new places v count = (k : ℕ) → k < count → get_or v (get_or places k 0) 0 ≡ new (get_or places k 0)

module _ (new : ℕ → ℕ) (v : List ℕ) (i : ℕ) (within : i < length v) where
  written : (j : ℕ) → (get_or (set v i (new i)) j 0 ≡ get_or v j 0) ⊎ (get_or (set v i (new i)) j 0 ≡ new j)
  written j = elim (cases_eq j i) [
    | inl same ↦
        let here = ap (λ k. get_or (set v i (new i)) k 0) same in
        inr (here ∙ get_or-set_same v i (new i) 0 within ∙ sym (ap new same))
    | inr other ↦ inl (get_or-set_other v i j (new i) 0 other)
  ]

  pub written_each : (old : List ℕ) → IsEachOldOrNew new old v → IsEachOldOrNew new old (set v i (new i))
  written_each old each j = elim (written j) [
    | inl kept ↦ elim (each j) [ inl before ↦ inl (kept ∙ before) | inr done ↦ inr (kept ∙ done) ]
    | inr done ↦ inr done
  ]

  pub written_first : (places : List ℕ) (k : ℕ) → get_or places k 0 ≡ i → AreFirstNew new places v k
      → AreFirstNew new places (set v i (new i)) (k + 1)
  written_first places k is first j less = elim (cases_lt j k) [
    | inl before ↦ elim (written (get_or places j 0)) [
      | inl kept ↦ kept ∙ first j before
      | inr done ↦ done
    ]
    | inr here ↦
        let last : j ≡ k = omega arith in
        let place = ap (λ k. get_or places k 0) last ∙ is in
        ap (λ p. get_or (set v i (new i)) p 0) place ∙ get_or-set_same v i (new i) 0 within ∙ sym (ap new place)
  ]

-- Where nothing grows the new entry is the old one, so each entry is the new one in the end.
pub round_entry : (list : List Row) (ranks vertices from old v : List ℕ) → AreGrowing list ranks vertices
    → AgreeAtRest list ranks from old
    → IsEachOldOrNew (λ i. get_or from i 0 + block_sum_of list ranks from i) old v
    → AreFirstNew (λ i. get_or from i 0 + block_sum_of list ranks from i) vertices v (length vertices)
    → (i : ℕ) → i < length list → get_or v i 0 ≡ get_or from i 0 + block_sum_of list ranks from i
round_entry list ranks vertices from old v growing rest each first i within = elim (growing.all i within) [
  | inl none ↦ elim (each i) [
    | inl kept ↦
        let nothing : block_sum_of list ranks from i ≡ 0 = ap (sum_by (slice_index from)) none in
        omega (arith, kept, rest i within none, nothing)
    | inr done ↦ done
  ]
  | inr listed ↦
      let place = get_or_default vertices listed.0 0 i listed.1 ∙ listed.2 in
      subst (λ j. get_or v j 0 ≡ get_or from j 0 + block_sum_of list ranks from j) place (first listed.0 listed.1)
]
