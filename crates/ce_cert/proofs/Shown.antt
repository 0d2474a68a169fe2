-- Every vector shows its own bounds, by every ranking.
use Rattle.std.proofs.Common.{◌≡◌, ◌<◌, ◌≤◌, ◌*◌, ◌^◌, ◌∙◌, inl, inr, ℕ, Bool, true, min, List, [], ◌∷◌, length, refl}
use Rattle.std.proofs.Common.{sym, subst, arith, eq-eqb}
use Rattle.std.specs.Prelude.{All, Contains, slice_index, map, filter, ◌==◌}
use Rattle.std.specs.List.{range_with_len}
use Rattle.std.proofs.lemmas.Bool.{cases_lt, eqb-true}
use Rattle.std.proofs.lemmas.List.{length-map, get_or-map}
use Rattle.std.proofs.lemmas.List.Elements.{All-nil, All-cons, All-weaker, All-contains, All-contains_itself}
use Rattle.std.proofs.lemmas.List.Elements.{All-filter, filter_passes, Contains-get_or, Contains-append_right}
use Rattle.ce_rows.specs.Blocks.{IsRanking}
use Rattle.ce_rows.specs.Rows.{ScaledRows, AreScaledRows}
use Rattle.ce_rows.proofs.Rates.{low_at_most_high_of_rows}
use Rattle.ce_cert.specs.Certificate.{IsLowVector, IsHighVector}
use Rattle.ce_cert.specs.Quotients.{quotient_up, least_quotient, low_of, low_rank_of, high_of, least, greatest}
use Rattle.ce_cert.specs.Vectors.{IsVectorOf}
use Rattle.ce_cert.proofs.BoundsOf.{Contains-filter, two_is_small}
use Rattle.ce_cert.proofs.Cut.{two_bounds}
use Rattle.ce_cert.proofs.Defined.{rank_vector, low_is_lower_bound, quotient_above, all_above}
use Rattle.ce_cert.proofs.Extremes.{greatest_attained, least_is}

-- A list with an element has a least one.
pub some_least : (xs : List ℕ) → 0 < length xs → (m : ℕ) × Contains xs m × All (λ y. m ≤ y) xs
some_least [] some = absurd (omega (arith, some))
some_least (x ∷ []) some = (x, (0, omega arith, refl), All-cons (λ y. x ≤ y) x [] (omega arith) (All-nil (λ y. x ≤ y)))
some_least (x ∷ y ∷ xs) some =
    let rest = some_least (y ∷ xs) (omega arith) in
    elim (cases_lt rest.0 x) [
      | inl less ↦ (
        rest.0,
        Contains-append_right (x ∷ []) (y ∷ xs) rest.0 rest.1,
        All-cons (λ z. rest.0 ≤ z) x
            (y ∷ xs) (omega (arith, less)) rest.2,
      )
      | inr more ↦ (
        x,
        (0, omega arith, refl),
        All-cons (λ z. x ≤ z) x (y ∷ xs) (omega arith)
            (All-weaker (λ z. rest.0 ≤ z) (λ z. x ≤ z) (λ z h. omega (arith, h, more)) (y ∷ xs) rest.2),
      )
    ]

least_attained : (xs : List ℕ) → 0 < length xs → Contains xs (least xs)
least_attained xs some =
    let one = some_least xs some in
    subst (Contains xs) (sym (least_is xs one.0 one.1 one.2)) one.1

module _ (rows : ScaledRows) (are : AreScaledRows rows) (ranks v : List ℕ) (ranking : IsRanking rows.list ranks)
    (vector : IsVectorOf rows v) where
  abbrev gives_low : ℕ → Bool
  gives_low rank = least_quotient rows ranks v rank == low_of rows ranks v

  -- some rank that occurs gives the low end
  some_rank : (rank : ℕ) × Contains ranks rank × (least_quotient rows ranks v rank ≡ low_of rows ranks v)
  unfolding low_of
  some_rank =
      let numbers = map (least_quotient rows ranks v) ranks in
      let long : length numbers ≡ length ranks = length-map ranks (least_quotient rows ranks v) in
      let (k, within, here) = greatest_attained numbers (omega (arith, long, ranking.each, are.rows.some)) in
      let inside : k < length ranks = omega (arith, within, long) in (
        slice_index ranks k,
        Contains-get_or ranks k 0 inside,
        sym
            (get_or-map (least_quotient rows ranks v) ranks k 0 (greatest numbers) inside) ∙ here,
      )

  low_rank_found : Contains (filter gives_low ranks) (low_rank_of rows ranks v)
  unfolding low_rank_of
  low_rank_found =
      let one = some_rank in
      let member : Contains (filter gives_low ranks) one.0 = Contains-filter gives_low one.0
      (eq-eqb (least_quotient rows ranks v one.0) (low_of rows ranks v) one.2) ranks one.1 in
      least_attained (filter gives_low ranks) (omega (arith, member.1))

  pub low_rank_occurs : Contains ranks (low_rank_of rows ranks v)
  low_rank_occurs = All-contains (Contains ranks) (filter gives_low ranks) (low_rank_of rows ranks v)
      (All-filter gives_low (Contains ranks) ranks (All-contains_itself ranks)) low_rank_found

  pub low_shown : IsLowVector rows ranks (low_rank_of rows ranks v) v (low_of rows ranks v)
  low_shown =
      let passes : gives_low (low_rank_of rows ranks v) ≡ true = All-contains (λ x. gives_low x ≡ true)
      (filter gives_low ranks) (low_rank_of rows ranks v) (filter_passes gives_low ranks) low_rank_found in
      let is = eqb-true (least_quotient rows ranks v (low_rank_of rows ranks v)) (low_of rows ranks v) passes in
      subst (IsLowVector rows ranks (low_rank_of rows ranks v) v) is
      (rank_vector rows are ranks v ranking vector.each vector.positive (low_rank_of rows ranks v))

  pub low_below_cut : low_of rows ranks v < 2 ^ 62
  low_below_cut =
      let top = 2 * 2 ^ rows.exponent in
      let most = low_at_most_high_of_rows rows (low_of rows ranks v) top
      (low_is_lower_bound rows are ranks v ranking vector.each vector.positive)
      (two_bounds rows are top (omega arith)) in
      omega (arith, most, two_is_small rows are)

  pub high_shown : high_of rows ranks v < 2 ^ 62 → IsHighVector rows ranks v (high_of rows ranks v)
  unfolding high_of
  high_shown less =
      let top = greatest (map (quotient_up rows ranks v) (range_with_len 0 (length ranks))) in
      let same : min top (2 ^ 62) ≡ top = omega (arith, less) in
      subst (IsHighVector rows ranks v) (sym same)
      (all_above rows are ranks v ranking vector.each vector.positive top
      (quotient_above rows are ranks v ranking vector.each vector.positive))
