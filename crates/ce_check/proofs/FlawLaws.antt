-- A certificate with ranks as numbers of 32 bits has the flaw of the one with all ranks.
use Rattle.std.proofs.Common.{◌≡◌, ◌<◌, ◌≤◌, ℕ, List, [], ◌∷◌, length, map, Option, Some, None, IfSome, refl, sym, ap}
use Rattle.std.proofs.Common.{subst, ◌∙◌, arith}
use Rattle.std.specs.Prelude.{◌↔◌}
use Rattle.std.specs.List.{All}
use Rattle.std.proofs.lemmas.List.{length-map}
use Rattle.std.proofs.lemmas.List.Elements.{All-contains, All-head, All-tail}
use Rattle.ce_cert.specs.Certificate.{Evidence, HasLengths, HasRanking, IsCertificate}
use Rattle.ce_cert.specs.Evidence.{IsFirstFlaw}
use Rattle.ce_cert.specs.declared.certificate.Flaw.{Flaw}
use Rattle.ce_cert.specs.declared.certificate.Flaw.TheVariants.{Length, Rank, Entry, Low, High}
use Rattle.ce_rows.specs.Rows.{ScaledRows, AreScaledRows}
use Rattle.ce_check.specs.ItemsInside.{cut, IsFlawOfItem}

cut_small : (n : ℕ) → cut n < 8129 → cut n ≡ n
cut_small n h = omega arith

small_cut : (n : ℕ) → n < 8129 → cut n ≡ n
small_cut n h = omega arith

map_cut : (list : List ℕ) (count : ℕ) → count ≤ 8128 → All (λ r. r < count) (map cut list) → map cut list ≡ list
map_cut [] count few below = refl
map_cut (x ∷ xs) count few below =
    let P : ℕ → Type 0 = λ r. r < count in
    let first : cut x < count = All-head P (cut x) (map cut xs) below in
    let head = cut_small x (omega arith) in
    let tail = map_cut xs count few (All-tail P (cut x) (map cut xs) below) in
    ap (λ y. y ∷ map cut xs) head ∙ ap (λ l. x ∷ l) tail

map_same : (list : List ℕ) (count : ℕ) → count ≤ 8128 → All (λ r. r < count) list → map cut list ≡ list
map_same [] count few below = refl
map_same (x ∷ xs) count few below =
    let P : ℕ → Type 0 = λ r. r < count in
    let first : x < count = All-head P x xs below in
    let head = small_cut x (omega arith) in
    let tail = map_same xs count few (All-tail P x xs below) in
    ap (λ y. y ∷ map cut xs) head ∙ ap (λ l. x ∷ l) tail

abbrev pub cut_evidence : Evidence → Evidence
cut_evidence e = record {
  ranks = map cut e.ranks;
  low_rank = cut e.low_rank;
  low_vector = e.low_vector;
  high_vector = e.high_vector;
  low = e.low;
  high = e.high;
}

module _ (rows : ScaledRows) (are : AreScaledRows rows) (e : Evidence) where
  with_ranks : List ℕ → ℕ → Evidence
  with_ranks ranks rank =
      record {
        ranks = ranks;
        low_rank = rank;
        low_vector = e.low_vector;
        high_vector = e.high_vector;
        low = e.low;
        high = e.high;
      }

  same_by : map cut e.ranks ≡ e.ranks → cut e.low_rank ≡ e.low_rank → cut_evidence e ≡ e
  unfolding with_ranks
  same_by ranks rank = ap (λ r. with_ranks r (cut e.low_rank)) ranks ∙ ap (with_ranks e.ranks) rank

  few : length rows.list ≤ 8128
  few = are.rows.few

  -- a ranking has small ranks alone
  cut_ranking : HasRanking rows (cut_evidence e) → cut_evidence e ≡ e
  cut_ranking h =
      let low : cut e.low_rank < length rows.list =
      All-contains (λ r. r < length rows.list) (map cut e.ranks) (cut e.low_rank) h.ranking.below h.low_rank in
      same_by (map_cut e.ranks (length rows.list) few h.ranking.below) (cut_small e.low_rank (omega (arith, few)))

  whole_ranking : HasRanking rows e → cut_evidence e ≡ e
  whole_ranking h =
      let low : e.low_rank < length rows.list =
      All-contains (λ r. r < length rows.list) e.ranks e.low_rank h.ranking.below h.low_rank in
      same_by (map_same e.ranks (length rows.list) few h.ranking.below) (small_cut e.low_rank (omega (arith, few)))

  lengths : HasLengths rows e → HasLengths rows (cut_evidence e)
  lengths h =
      record { ranks = length-map e.ranks cut ∙ h.ranks; low_vector = h.low_vector; high_vector = h.high_vector }

  whole_lengths : HasLengths rows (cut_evidence e) → HasLengths rows e
  whole_lengths h =
      record { ranks = sym (length-map e.ranks cut) ∙ h.ranks; low_vector = h.low_vector; high_vector = h.high_vector }

  flaw_by : (f : Flaw) → IsFirstFlaw rows (cut_evidence e) f → IsFirstFlaw rows e f
  flaw_by Length h = λ long. h (lengths long)
  flaw_by Rank h = (whole_lengths h.0, λ ranking. h.1 (subst (HasRanking rows) (sym (whole_ranking ranking)) ranking))
  flaw_by Entry h = subst (λ k. IsFirstFlaw rows k Entry) (cut_ranking h.1) h
  flaw_by Low h = subst (λ k. IsFirstFlaw rows k Low) (cut_ranking h.1) h
  flaw_by High h = subst (λ k. IsFirstFlaw rows k High) (cut_ranking h.1) h

  pub flaw_of_cut : (k : Evidence) (found : Option Flaw) → k ≡ cut_evidence e → (found ≡ None) ↔ IsCertificate rows k
      → IfSome found (IsFirstFlaw rows k) → IsFlawOfItem rows e found
  flaw_of_cut k None same holds flaw =
      let certified = subst (IsCertificate rows) same (holds.0 refl) in
      subst (IsCertificate rows) (cut_ranking certified.ranking) certified
  flaw_of_cut k (Some f) same holds flaw = flaw_by f (subst (λ x. IsFirstFlaw rows x f) same flaw)

pub same_evidence : (e : Evidence) (ranks v w : List ℕ) (rank low high : ℕ) → ranks ≡ map cut e.ranks
    → rank ≡ cut e.low_rank → v ≡ e.low_vector → w ≡ e.high_vector → low ≡ e.low → high ≡ e.high
    → (let k : Evidence = record {
      ranks = ranks;
      low_rank = rank;
      low_vector = v;
      high_vector = w;
      low = low;
      high = high;
    } in k) ≡ cut_evidence e
same_evidence e ranks v w rank low high a b c d f g =
    let of : List ℕ → ℕ → List ℕ → List ℕ → ℕ → ℕ → Evidence =
    λ r k x y l h. record { ranks = r; low_rank = k; low_vector = x; high_vector = y; low = l; high = h } in
    ap (λ r. of r rank v w low high) a ∙ ap (λ k. of (map cut e.ranks) k v w low high) b
    ∙ ap (λ x. of (map cut e.ranks) (cut e.low_rank) x w low high) c
    ∙ ap (λ y. of (map cut e.ranks) (cut e.low_rank) e.low_vector y low high) d
    ∙ ap (λ l. of (map cut e.ranks) (cut e.low_rank) e.low_vector e.high_vector l high) f
    ∙ ap (λ h. of (map cut e.ranks) (cut e.low_rank) e.low_vector e.high_vector e.low h) g
