-- What a run hands out encloses the growth rate of its rows, inside the initial enclosure.
use Rattle.std.proofs.Common.{◌≡◌, ◌≤◌, ◌^◌, ◌*◌, ◌+◌, ℕ, List, subst, arith}
use Rattle.std.proofs.Math.Nat.{mul-le-mul_left, pow-le-pow_left}
use Rattle.ce_cert.proofs.Enclose.{certificate_encloses}
use Rattle.ce_comp.specs.Numbering.{IsNumbering}
use Rattle.ce_comp.proofs.Unique.{numbering_unique}
use Rattle.ce_live.specs.declared.reading.Reading.{Reading}
use Rattle.ce_rows.specs.Growth.{Encloses, IsGrowthLowerBound, IsGrowthUpperBound}
use Rattle.ce_rows.specs.Rows.{AreRows, AreScaledRows, EnclosesRows, ScaledRows, all_walks}
use Rattle.ce_rows.specs.declared.interval.Interval.{Interval}
use Rattle.ce_words.specs.Logs.{Each}
use Rattle.ce_words.specs.Steps.{LiesInside}
use Rattle.ce_words.proofs.Sums.{Each-more}
use Rattle.ce_solve.proofs.LoneClosing.{one_bounds}
use Rattle.ce_solve.specs.SolvedRows.{AreInitialBounds, Closing, IsSolved}

-- What contains an interval that encloses does too.
pub widened : (exponent : ℕ) (count : ℕ → ℕ) (low high from to : ℕ) → from ≤ low → high ≤ to
    → Encloses exponent count low high → Encloses exponent count from to
unfolding IsGrowthLowerBound IsGrowthUpperBound
widened exponent count low high from to below above h = record {
  below = (
    h.below.0,
    h.below.1,
    λ n. let less = pow-le-pow_left {n = from} {m = low} below n in omega (arith, less, h.below.2 n),
  );
  above = (
    h.above.0,
    h.above.1,
    h.above.2,
    λ n.
        let less = pow-le-pow_left {n = high} {m = to} above n in
        let more : h.above.0 * (n + 1) ^ h.above.1 * high ^ n ≤ h.above.0 * (n + 1) ^ h.above.1 * to ^ n =
        mul-le-mul_left (h.above.0 * (n + 1) ^ h.above.1) less in
        omega (arith, more, h.above.3 n),
  );
}

module _ (rows : ScaledRows) (rounds turns workers : ℕ) (closing : Closing)
    (h : IsSolved rows rounds turns workers closing) where
  pub encloses : AreScaledRows rows → EnclosesRows rows closing.evidence.low closing.evidence.high
  encloses are = certificate_encloses rows closing.evidence are h.certificate

  -- The run begins at the initial bounds, by any numbering.
  module _ (ranks : List ℕ) (initial : Interval) (are : AreRows rows.list) (numbering : IsNumbering rows.list ranks)
      (bounds : AreInitialBounds rows ranks rounds initial) where
    begins_at : h.run.initial ≡ initial
    begins_at =
        let same = numbering_unique rows.list are h.run.ranks ranks h.run_of.numbering numbering in
        one_bounds rows rounds h.run.ranks ranks h.run.initial initial same h.run_of.bounds bounds

    pub inside : LiesInside initial.low initial.high closing.evidence.low closing.evidence.high
    inside = subst (λ (i : Interval). LiesInside i.low i.high closing.evidence.low closing.evidence.high) begins_at
        (record { from = h.is_run.greatest.from; to = h.is_run.least.from })

    pub readings_inside : Each
        (λ (r : Reading). LiesInside initial.low initial.high r.interval.low r.interval.high) closing.readings
    readings_inside =
        subst
        (λ (i : Interval). Each (λ (r : Reading). LiesInside i.low i.high r.interval.low r.interval.high)
        closing.readings) begins_at h.inside_initial

  pub readings_enclose : AreScaledRows rows
      → Each (λ (r : Reading). EnclosesRows rows r.interval.low r.interval.high) closing.readings
  readings_enclose are =
      let low = closing.evidence.low in
      let high = closing.evidence.high in
      Each-more (λ (r : Reading). LiesInside r.interval.low r.interval.high low high)
      (λ (r : Reading). EnclosesRows rows r.interval.low r.interval.high)
      (λ r contains. widened rows.exponent (all_walks rows.list) low high r.interval.low r.interval.high
      contains.from contains.to (encloses are)) closing.readings h.contain
