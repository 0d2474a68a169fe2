-- The bounds of a positive vector, as they are defined, bound the growth rate: whatever computes them.
use Rattle.std.proofs.Common.{◌≡◌, ◌<◌, ◌≤◌, ◌*◌, ◌^◌, ◌∙◌, inl, inr, ℕ, min, List, length, refl, sym, subst, arith}
use Rattle.std.proofs.Common.{eq-eqb, lit≤}
use Rattle.std.specs.Prelude.{All, slice_index, map, ◌==◌}
use Rattle.std.specs.List.{range_with_len}
use Rattle.std.proofs.lemmas.Bool.{cases_lt}
use Rattle.std.proofs.lemmas.Grind.{div_ceil_times}
use Rattle.std.proofs.lemmas.List.{length-map, get_or-map}
use Rattle.std.proofs.lemmas.List.Elements.{Contains-get_or}
use Rattle.std.proofs.Math.Nat.{div-mul-le_self, mul-le-mul_right}
use Rattle.ce_rows.specs.Blocks.{IsRanking}
use Rattle.ce_rows.specs.Rows.{ScaledRows, AreScaledRows, IsLowerBoundOf, IsUpperBoundOf}
use Rattle.ce_cert.specs.Certificate.{IsLowVector, IsHighVector}
use Rattle.ce_cert.specs.Quotients.{quotient_down, quotient_up, scaled_sum, vertices_of, least_quotient, low_of}
use Rattle.ce_cert.specs.Quotients.{high_of, greatest}
use Rattle.ce_cert.proofs.BoundsOf.{Contains-map, Contains-filter, Contains-range}
use Rattle.ce_cert.proofs.Cut.{two_bounds}
use Rattle.ce_cert.proofs.Extremes.{greatest_above, greatest_attained, least_below}
use Rattle.ce_cert.proofs.High.{high_vector_bounds}
use Rattle.ce_cert.proofs.Low.{low_vector_bounds}

scale_small : (rows : ScaledRows) → AreScaledRows rows → 2 * 2 ^ rows.exponent ≤ 2 ^ 62
scale_small rows are = elim are.scale [
  | inl e ↦ rw e (lit≤ tt)
  | inr e ↦ rw e (lit≤ tt)
]

module _ (rows : ScaledRows) (are : AreScaledRows rows) (ranks v : List ℕ) (ranking : IsRanking rows.list ranks)
    (each : length v ≡ length rows.list) (positive : All (λ x. 1 ≤ x) v) where
  -- no quotient of a rank is below the rank's least one
  rank_below : (i : ℕ) → i < length rows.list
      → least_quotient rows ranks v (slice_index ranks i) ≤ quotient_down rows ranks v i
  unfolding least_quotient
  rank_below i within =
      let rank = slice_index ranks i in
      let member =
      Contains-filter (λ j. slice_index ranks j == rank) i (eq-eqb rank rank refl)
      (range_with_len 0 (length ranks)) (Contains-range (length ranks) i (omega (arith, ranking.each, within))) in
      least_below (map (quotient_down rows ranks v) (vertices_of ranks rank)) (quotient_down rows ranks v i)
      (Contains-map (quotient_down rows ranks v) (vertices_of ranks rank) i member)

  pub rank_vector : (rank : ℕ) → IsLowVector rows ranks rank v (least_quotient rows ranks v rank)
  rank_vector rank i within same =
      let below : least_quotient rows ranks v rank ≤ quotient_down rows ranks v i =
      subst (λ r. least_quotient rows ranks v r ≤ quotient_down rows ranks v i) same (rank_below i within) in
      let more = mul-le-mul_right (slice_index v i) below in
      omega (arith, more, div-mul-le_self (scaled_sum rows ranks v i) (slice_index v i))

  -- the rank that gives the lower bound is the rank of some vertex
  pub low_is_lower_bound : IsLowerBoundOf rows (low_of rows ranks v)
  unfolding low_of
  low_is_lower_bound =
      let numbers = map (least_quotient rows ranks v) ranks in
      let long : length numbers ≡ length ranks = length-map ranks (least_quotient rows ranks v) in
      let (k, within, here) = greatest_attained numbers (omega (arith, long, ranking.each, are.rows.some)) in
      let rank = slice_index ranks k in
      let inside : k < length ranks = omega (arith, within, long) in
      let is : least_quotient rows ranks v rank ≡ greatest numbers =
      sym (get_or-map (least_quotient rows ranks v) ranks k 0 (greatest numbers) inside) ∙ here in
      subst (IsLowerBoundOf rows) is
      (low_vector_bounds rows are ranks v rank (least_quotient rows ranks v rank) ranking.each each
      (Contains-get_or ranks k 0 inside) positive (rank_vector rank))

  pub quotient_above : (i : ℕ) → i < length rows.list
      → quotient_up rows ranks v i ≤ greatest (map (quotient_up rows ranks v) (range_with_len 0 (length ranks)))
  quotient_above i within =
      greatest_above (map (quotient_up rows ranks v) (range_with_len 0 (length ranks))) (quotient_up rows ranks v i)
      (Contains-map (quotient_up rows ranks v) (range_with_len 0 (length ranks)) i
      (Contains-range (length ranks) i (omega (arith, ranking.each, within))))

  pub all_above : (high : ℕ) → ((i : ℕ) → i < length rows.list → quotient_up rows ranks v i ≤ high)
      → IsHighVector rows ranks v high
  all_above high most i within =
      let one = positive i 0 (omega (arith, each, within)) in
      let up = (div_ceil_times (scaled_sum rows ranks v i) (slice_index v i) (omega (arith, one))).0 in
      let more = mul-le-mul_right (slice_index v i) (most i within) in
      omega (arith, more, up)

  -- above the cut every number is an upper bound
  pub high_is_upper_bound : IsUpperBoundOf rows (high_of rows ranks v)
  unfolding high_of
  high_is_upper_bound =
      let small : 2 * 2 ^ rows.exponent ≤ 2 ^ 62 = scale_small rows are in
      let top = greatest (map (quotient_up rows ranks v) (range_with_len 0 (length ranks))) in
      elim (cases_lt top (2 ^ 62)) [
        | inl less ↦
            let same : min top (2 ^ 62) ≡ top = omega arith in
            subst (IsUpperBoundOf rows) (sym same)
            (high_vector_bounds rows are ranks v top ranking each positive
            (all_above top quotient_above))
        | inr more ↦ two_bounds rows are (min top (2 ^ 62)) (omega (arith, small))
      ]
