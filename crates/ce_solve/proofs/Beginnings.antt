-- Where a run of rows begins: its vector is positive, and its bounds are the Collatz-Wielandt bounds of a positive
-- vector, so they enclose.
use Rattle.std.proofs.Common.{◌≡◌, ◌≤◌, ◌*◌, ◌^◌, ℕ, List, length, sym, ap, subst, ◌∙◌, arith, ◌<◌}
use Rattle.std.specs.Prelude.{All}
use Rattle.std.proofs.lemmas.List.{length-map}
use Rattle.std.proofs.lemmas.List.Elements.{All-weaker}
use Rattle.ce_cert.proofs.Defined.{low_is_lower_bound, high_is_upper_bound}
use Rattle.ce_cert.specs.Start.{IsStart}
use Rattle.ce_cert.specs.Vectors.{IsVectorOf}
use Rattle.ce_comp.proofs.Rankings.{numbering_is_ranking}
use Rattle.ce_rows.specs.Blocks.{IsRanking}
use Rattle.ce_rows.specs.Rows.{ScaledRows, AreScaledRows, EnclosesRows, IsLowerBoundOf, IsUpperBoundOf}
use Rattle.ce_rows.specs.declared.interval.Interval.{Interval}
use Rattle.ce_vector.proofs.Powers.{length-power_vector, power_vector-some}
use Rattle.ce_vector.proofs.Scaled.{scaled-some, scaled-small}
use Rattle.ce_vector.specs.PowerIteration.{power_vector}
use Rattle.ce_vector.specs.Start.{doublings, scaled_up}
use Rattle.ce_words.specs.Views.{rows_of}
use Rattle.ce_words.specs.declared.view.Run.{Run}
use Rattle.ce_solve.specs.Prepared.{MayBegin}
use Rattle.ce_solve.specs.SolvedRows.{AreInitialBounds, IsRunOf}
use Rattle.ce_solve.specs.declared.preparing.Prepared.{Prepared}

-- The initial bounds enclose, whatever the number of rounds.
pub initial_bounds_enclose : (rows : ScaledRows) (ranks : List ℕ) (rounds : ℕ) (interval : Interval)
    → AreScaledRows rows → IsRanking rows.list ranks → AreInitialBounds rows ranks rounds interval
    → EnclosesRows rows interval.low interval.high
initial_bounds_enclose rows ranks rounds interval are ranking h =
    let vector = power_vector rows.list ranks rounds in
    let each = length-power_vector rows.list ranks rounds in
    let positive = power_vector-some rows.list ranks rounds in
    record {
      below = subst (IsLowerBoundOf rows) (sym h.low)
          (low_is_lower_bound rows are ranks vector ranking each positive);
      above = subst (IsUpperBoundOf rows) (sym h.high)
          (high_is_upper_bound rows are ranks vector ranking each positive);
    }

-- A run starts with a positive vector and with bounds that enclose.
pub record HasTrueStart (run : Run) : Type 0 where
  pub scaled : AreScaledRows (rows_of run)
  pub ranking : IsRanking run.rows run.ranks
  pub each : length run.start ≡ length run.rows
  pub positive : All (λ x. 1 ≤ x) run.start
  pub encloses : EnclosesRows (rows_of run) run.initial.low run.initial.high

pub run_has_true_start : (rows : ScaledRows) (rounds : ℕ) (run : Run) → AreScaledRows rows → IsRunOf rows rounds run
    → HasTrueStart run
run_has_true_start rows rounds run are h =
    let vector = power_vector rows.list run.ranks rounds in
    let ranking = numbering_is_ranking rows.list run.ranks h.numbering in
    let same : rows ≡ rows_of run = sym h.rows_are in
    record {
      scaled = subst AreScaledRows same are;
      ranking = subst (λ (r : ScaledRows). IsRanking r.list run.ranks) same ranking;
      each = ap (λ (v : List ℕ). length v) h.start_is ∙ (length-map vector (λ x. x * 2 ^ doublings vector)
          ∙ (length-power_vector rows.list run.ranks rounds ∙ ap (λ (r : ScaledRows). length r.list) same));
      positive = subst (All (λ x. 1 ≤ x)) (sym h.start_is)
          (scaled-some vector (power_vector-some rows.list run.ranks rounds));
      encloses = subst (λ (r : ScaledRows). EnclosesRows r run.initial.low run.initial.high) same
          (initial_bounds_enclose rows run.ranks rounds run.initial are ranking h.bounds);
    }

-- Scaled up, entries from 1 below 2^58 are a vector.
pub scaled_is_vector : (rows : ScaledRows) (v : List ℕ) → length v ≡ length rows.list → All (λ x. 1 ≤ x) v
    → All (λ x. x < 2 ^ 58) v → IsVectorOf rows (scaled_up v)
scaled_is_vector rows v each some most = record {
  each = length-map v (λ x. x * 2 ^ doublings v) ∙ each;
  positive = scaled-some v some;
  small = All-weaker (λ x. x < 2 ^ 58) (λ x. x ≤ 2 ^ 60) (λ x h. omega (arith, h)) (scaled_up v) (scaled-small v most);
}

-- What was prepared may start a run with its vector scaled up.
pub scaled_starts : (rows : ScaledRows) (p : Prepared) (start : List ℕ) → MayBegin rows p
    → start ≡ scaled_up p.vector.items → IsStart rows p.ranks.ranks start p.bounds.low p.bounds.high
scaled_starts rows p start h is = record {
  scaled = h.start.scaled;
  ranking = h.start.ranking;
  vector = subst (IsVectorOf rows) (sym is)
      (scaled_is_vector rows p.vector.items h.start.vector.each h.start.vector.positive h.small);
  encloses = h.start.encloses;
  from = h.start.from;
  to = h.start.to;
}
