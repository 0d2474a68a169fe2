-- Initial enclosures enclose.
use Rattle.std.proofs.Common.{◌≡◌, ◌≤◌, ◌+◌, ◌*◌, ◌^◌, ℕ, subst}
use Rattle.ce_comp.proofs.Rankings.{numbering_is_ranking}
use Rattle.ce_orbit.specs.Orbit.{ForwardOrbit, IsForwardOrbit}
use Rattle.ce_rows.specs.Growth.{Encloses, IsGrowthLowerBound, IsGrowthUpperBound}
use Rattle.ce_rows.specs.Rows.{ScaledRows, EnclosesRows, all_walks}
use Rattle.ce_rows.specs.declared.interval.Interval.{Interval}
use Rattle.ce_thurston.specs.Indices.{rows_of_orbit}
use Rattle.ce_thurston.specs.Pairs.{pair_walks}
use Rattle.ce_thurston.proofs.OrbitRows.{rows_total}
use Rattle.core_entropy.specs.InitialEnclosure.{IsInitialEnclosure}
use Rattle.ce_thurston.specs.Indices.{rows_at}
use Rattle.ce_solve.proofs.Beginnings.{initial_bounds_enclose}

pub initial_encloses : (rows : ScaledRows) (rounds : ℕ) (interval : Interval)
    → IsInitialEnclosure rows rounds interval → EnclosesRows rows interval.low interval.high
initial_encloses rows rounds interval h =
    initial_bounds_enclose rows h.ranks rounds interval h.are_rows
    (numbering_is_ranking rows.list h.ranks h.numbering) h.bounds

-- What encloses the growth of counts encloses that of the same counts.
pub same_growth : (exponent : ℕ) (count other : ℕ → ℕ) (low high : ℕ) → ((n : ℕ) → count n ≡ other n)
    → Encloses exponent count low high → Encloses exponent other low high
unfolding IsGrowthLowerBound IsGrowthUpperBound
same_growth exponent count other low high same h = record {
  below = (h.below.0, h.below.1, λ n. subst (λ c. low ^ n ≤ h.below.0 * (2 ^ exponent) ^ n * c) (same n) (h.below.2 n));
  above = (
    h.above.0,
    h.above.1,
    h.above.2,
    λ n. subst (λ c. (2 ^ exponent) ^ n * c ≤ h.above.0 * (n + 1) ^ h.above.1 * high ^ n) (same n) (h.above.3 n),
  );
}

-- What encloses the rows of an orbit encloses the walks on its pairs.
pub pairs_enclosed : (o : ForwardOrbit) (exponent low high : ℕ) → IsForwardOrbit o
    → EnclosesRows (rows_at o exponent) low high → Encloses exponent (pair_walks o) low high
pairs_enclosed o exponent low high is_orbit h =
    same_growth exponent (all_walks (rows_of_orbit o)) (pair_walks o) low high (rows_total o is_orbit) h
