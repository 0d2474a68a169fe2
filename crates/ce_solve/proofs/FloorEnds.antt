-- The bounds that the vectors of power iteration give lie from S to 2S, whatever the ranking.
use Rattle.std.proofs.Common.{◌≡◌, ◌<◌, ◌≤◌, ◌+◌, ◌*◌, ◌^◌, ◌∙◌, ◌/◌, inl, inr, true, ℕ, zero, suc, List, [], ◌∷◌}
use Rattle.std.proofs.Common.{length, get_or, refl, sym, arith, eq-eqb}
use Rattle.std.specs.Prelude.{All, Contains, slice_index, sum_by, map, ◌==◌}
use Rattle.std.specs.Int.{div_ceil}
use Rattle.std.specs.List.{range_with_len}
use Rattle.std.proofs.lemmas.List.{length-map, get_or_default}
use Rattle.std.proofs.lemmas.Bool.{cases_lt, eqb-true}
use Rattle.std.proofs.lemmas.Grind.{div_ceil_times}
use Rattle.std.proofs.lemmas.Nat.{le-div}
use Rattle.std.proofs.lemmas.List.Elements.{All-head, All-tail, All-map, All-filter, All-weaker}
use Rattle.std.proofs.lemmas.List.Elements.{All-get_or, All-contains}
use Rattle.std.proofs.lemmas.List.Sums.{sum_by-cons}
use Rattle.std.proofs.Math.Nat.{mul-le-mul_left, mul-le-mul_right}
use Rattle.ce_rows.specs.Blocks.{IsRanking, has_rank_of, block_successors, block_sum_of}
use Rattle.ce_rows.specs.Rows.{ScaledRows, AreScaledRows, AreRows, successors_in}
use Rattle.ce_rows.specs.declared.row.Row.{Row}
use Rattle.ce_rows.specs.Limits.{most_rounds}
use Rattle.ce_rows.proofs.Blocks.{entry_at_most, block_sum_at_most}
use Rattle.ce_vector.specs.PowerIteration.{power_vector}
use Rattle.ce_vector.proofs.Powers.{length-power_vector, power_round-entry, power_vector-some, power_vector-most}
use Rattle.ce_vector.proofs.Powers.{power_vector-below}
use Rattle.ce_cert.specs.Quotients.{quotient_down, quotient_up, vertices_of, least_quotient, low_of, high_of, least}
use Rattle.ce_cert.specs.Vectors.{IsVectorOf}
use Rattle.ce_cert.proofs.BoundsOf.{Contains-map, Contains-filter, Contains-range, All-range, All-passing}
use Rattle.ce_cert.proofs.Shown.{some_least}
use Rattle.ce_cert.proofs.Extremes.{least_is, greatest_above, greatest_at_most}
use Rattle.ce_cert.proofs.Sums.{scaled_sums, term_of_part}
use Rattle.ce_cert.proofs.Vertices.{some_successors, successors_below}

least_at_least : (m : ℕ) (xs : List ℕ) → 0 < length xs → All (λ x. m ≤ x) xs → m ≤ least xs
least_at_least m xs some h =
    let one = some_least xs some in
    let above = All-contains (λ x. m ≤ x) xs one.0 h one.1 in
    omega (arith, above, least_is xs one.0 one.1 one.2)

-- Where f is g + h at each element, the sum of f is that of g and that of h.
sum_of_sums : {X : Type 0} (f g h : X → ℕ) (xs : List X) → All (λ x. f x ≡ g x + h x) xs
    → sum_by f xs ≡ sum_by g xs + sum_by h xs
sum_of_sums f g h [] each = omega arith
sum_of_sums f g h (x ∷ xs) each =
    let first = All-head (λ x. f x ≡ g x + h x) x xs each in
    let rest = sum_of_sums f g h xs (All-tail (λ x. f x ≡ g x + h x) x xs each) in
    rw (sum_by-cons f x xs, sum_by-cons g x xs, sum_by-cons h x xs) (omega (arith, first, rest))

module _ (list : List Row) (are : AreRows list) (ranks : List ℕ) where
  abbrev entry : ℕ → ℕ → ℕ
  entry k i = slice_index (power_vector list ranks k) i

  abbrev sum_at : ℕ → ℕ → ℕ
  sum_at k i = block_sum_of list ranks (power_vector list ranks k) i

  some_entry : (k i : ℕ) → i < length list → 1 ≤ entry k i
  some_entry k i less =
      All-get_or (λ x. 1 ≤ x) (power_vector list ranks k) i 0 (omega (arith, less, length-power_vector list ranks k))
      (power_vector-some list ranks k)

  block_below : (i : ℕ) → i < length list → All (λ j. j < length list) (block_successors list ranks i)
  block_below i less =
      All-filter (has_rank_of ranks i) (λ j. j < length list) (successors_in list i) (successors_below list are i less)

  entry_grows : (k i : ℕ) → i < length list → entry (suc k) i ≡ entry k i + sum_at k i
  entry_grows k i less = power_round-entry list ranks (power_vector list ranks k) i less

  sum_grows : (k i : ℕ) → i < length list
      → sum_at (suc k) i ≡ sum_at k i + sum_by (sum_at k) (block_successors list ranks i)
  sum_grows k i less =
      sum_of_sums (entry (suc k)) (entry k) (sum_at k) (block_successors list ranks i)
      (All-weaker (λ j. j < length list) (λ j. entry (suc k) j ≡ entry k j + sum_at k j) (entry_grows k)
      (block_successors list ranks i) (block_below i less))

  -- A block sum is at most twice the entry: so it begins, and a round adds to it at most twice what
  -- it adds to the entry.
  sum_at_most_twice : (k i : ℕ) → i < length list → sum_at k i ≤ 2 * entry k i
  sum_at_most_twice zero i less =
      let most = block_sum_at_most list ranks (power_vector list ranks 0) i 1 (power_vector-most list ranks 0) in
      omega (arith, most, some_entry 0 i less)
  sum_at_most_twice (suc k) i less =
      let each = All-weaker (λ j. j < length list) (λ j. 1 * sum_at k j ≤ 2 * entry k j)
      (λ j below. omega (arith, sum_at_most_twice k j below)) (block_successors list ranks i)
      (block_below i less) in
      let sums = scaled_sums (sum_at k) (entry k) 1 2 (block_successors list ranks i) each in
      omega (arith, sums, sum_grows k i less, entry_grows k i less, sum_at_most_twice k i less)

  module _ (ranking : IsRanking list ranks) (rank : ℕ) (lowest : All (λ other. rank ≤ other) ranks) where
    -- The successors of a vertex of the least rank have that rank.
    stays : (i : ℕ) → i < length list → slice_index ranks i ≡ rank
        → All (λ j. slice_index ranks j ≡ rank) (successors_in list i)
    stays i less same j d within =
        let here = successors_below list are i less j d within in
        let up = ranking.never_rises i less j d within in
        let down = All-get_or (λ other. rank ≤ other) ranks (get_or (successors_in list i) j d) 0
        (omega (arith, here, ranking.each)) lowest in
        omega (arith, up, down, same)

    block_stays : (i : ℕ) → i < length list → slice_index ranks i ≡ rank
        → All (λ j. slice_index ranks j ≡ rank) (block_successors list ranks i)
    block_stays i less same =
        All-filter (has_rank_of ranks i) (λ j. slice_index ranks j ≡ rank) (successors_in list i) (stays i less same)

    -- So a block sum there is at least the entry: each successor's entry is at most its own sum.
    sum_at_least : (k i : ℕ) → i < length list → slice_index ranks i ≡ rank → entry k i ≤ sum_at k i
    sum_at_least zero i less same =
        let some = some_successors list i in
        let j = slice_index (successors_in list i) 0 in
        let passes = eq-eqb (slice_index ranks j) (slice_index ranks i)
        (stays i less same 0 0 (omega (arith, some)) ∙ sym same) in
        let term =
        term_of_part (entry 0) (has_rank_of ranks i) (successors_in list i) 0 0 (omega (arith, some)) passes in
        let first = some_entry 0 j (successors_below list are i less 0 0 (omega (arith, some))) in
        omega (arith, term, first, entry_at_most 1 (power_vector list ranks 0) (power_vector-most list ranks 0) i)
    sum_at_least (suc k) i less same =
        let block = block_successors list ranks i in
        let each : All (λ j. 1 * entry k j ≤ 1 * sum_at k j) block = λ m d within.
        omega (
          arith,
          sum_at_least k (get_or block m d) (block_below i less m d within)
              (block_stays i less same m d within),
        ) in
        let sums = scaled_sums (entry k) (sum_at k) 1 1 block each in
        omega (arith, sums, sum_grows k i less, entry_grows k i less, sum_at_least k i less same)

-- A quotient of a sum from u to 2u by u, in units of 1/S, is from S to 2S.
least_unit : (scale sum below : ℕ) → 1 ≤ below → below ≤ sum → scale ≤ (scale * sum) / below
least_unit scale sum below some less =
    le-div scale (scale * sum) below (omega (arith, some)) (mul-le-mul_left scale less)

most_units : (scale sum below : ℕ) → 1 ≤ below → sum ≤ 2 * below → div_ceil (scale * sum) below ≤ 2 * scale
most_units scale sum below some less =
    let quotient = div_ceil (scale * sum) below in
    let up = (div_ceil_times (scale * sum) below (omega (arith, some))).1 in
    let twice : scale * sum ≤ scale * (2 * below) = mul-le-mul_left scale less in
    elim (cases_lt (2 * scale) quotient) [
      | inl over ↦
          let more : (2 * scale + 1) * below ≤ quotient * below = mul-le-mul_right below (omega (arith, over)) in
          absurd (omega (arith, up, twice, more))
      | inr most ↦ most
    ]

module _ (rows : ScaledRows) (are : AreScaledRows rows) (ranks : List ℕ) (ranking : IsRanking rows.list ranks)
    (rounds : ℕ) where
  low_quotient : (rank : ℕ) → Contains ranks rank → All (λ other. rank ≤ other) ranks
      → 2 ^ rows.exponent ≤ least_quotient rows ranks (power_vector rows.list ranks rounds) rank
  unfolding least_quotient
  low_quotient rank occurs lowest =
      let vector = power_vector rows.list ranks rounds in
      let quotient = quotient_down rows ranks vector in
      let all = range_with_len 0 (length ranks) in
      let first = Contains-filter (λ i. slice_index ranks i == rank) occurs.0
      (eq-eqb (slice_index ranks occurs.0) rank (get_or_default ranks occurs.0 0 rank occurs.1 ∙ occurs.2)) all
      (Contains-range (length ranks) occurs.0 occurs.1) in
      let each = All-passing (λ i. slice_index ranks i == rank) (λ i. 2 ^ rows.exponent ≤ quotient i) all
      (All-range (λ i. (slice_index ranks i == rank) ≡ true → 2 ^ rows.exponent ≤ quotient i) (length ranks)
      (λ i within pass.
      let less : i < length rows.list = omega (arith, ranking.each, within) in
      least_unit (2 ^ rows.exponent) (block_sum_of rows.list ranks vector i) (slice_index vector i)
      (some_entry rows.list are.rows ranks rounds i less)
      (sum_at_least rows.list are.rows ranks ranking rank lowest rounds i less
      (eqb-true (slice_index ranks i) rank pass)))) in
      least_at_least (2 ^ rows.exponent) (map quotient (vertices_of ranks rank))
      (omega (arith, first.1, length-map (vertices_of ranks rank) quotient))
      (All-map (λ y. 2 ^ rows.exponent ≤ y) quotient (vertices_of ranks rank) each)

  pub floor_low : 2 ^ rows.exponent ≤ low_of rows ranks (power_vector rows.list ranks rounds)
  unfolding low_of
  floor_low =
      let quotient = least_quotient rows ranks (power_vector rows.list ranks rounds) in
      let lowest = some_least ranks (omega (arith, ranking.each, are.rows.some)) in
      let above =
      greatest_above (map quotient ranks) (quotient lowest.0) (Contains-map quotient ranks lowest.0 lowest.1) in
      omega (arith, above, low_quotient lowest.0 lowest.1 lowest.2)

  pub floor_high : high_of rows ranks (power_vector rows.list ranks rounds) ≤ 2 * 2 ^ rows.exponent
  unfolding high_of
  floor_high =
      let vector = power_vector rows.list ranks rounds in
      let quotient = quotient_up rows ranks vector in
      let all = range_with_len 0 (length ranks) in
      let each = All-range (λ i. quotient i ≤ 2 * 2 ^ rows.exponent) (length ranks) (λ i within.
      let less : i < length rows.list = omega (arith, ranking.each, within) in
      most_units (2 ^ rows.exponent) (block_sum_of rows.list ranks vector i) (slice_index vector i)
      (some_entry rows.list are.rows ranks rounds i less)
      (sum_at_most_twice rows.list are.rows ranks rounds i less)) in
      let most = greatest_at_most (2 * 2 ^ rows.exponent) (map quotient all)
      (All-map (λ y. y ≤ 2 * 2 ^ rows.exponent) quotient all each) in
      omega (arith, most)

  pub floor_vector : rounds ≤ most_rounds → IsVectorOf rows (power_vector rows.list ranks rounds)
  floor_vector few = record {
    each = length-power_vector rows.list ranks rounds;
    positive = power_vector-some rows.list ranks rounds;
    small = All-weaker (λ x. x < 2 ^ 60) (λ x. x ≤ 2 ^ 60) (λ x h. omega (arith, h))
        (power_vector rows.list ranks rounds) (power_vector-below rows.list ranks rounds
        (power_vector rows.list ranks rounds) refl few);
  }
