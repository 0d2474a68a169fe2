-- The certificate of a run with one worker is determined.
use Rattle.std.proofs.Common.{◌≡◌, ℕ, List, sym, ap, ◌∙◌, subst}
use Rattle.ce_cert.specs.Certificate.{Evidence}
use Rattle.ce_cert.specs.Quotients.{low_of, low_rank_of, high_of}
use Rattle.ce_comp.proofs.Unique.{numbering_unique}
use Rattle.ce_rows.specs.Rows.{ScaledRows, AreRows, AreScaledRows}
use Rattle.ce_rows.specs.declared.interval.Interval.{Interval}
use Rattle.ce_vector.specs.PowerIteration.{power_vector}
use Rattle.ce_vector.specs.Start.{start_of}
use Rattle.ce_words.specs.Views.{rows_of}
use Rattle.ce_words.specs.declared.view.Run.{Run}
use Rattle.ce_solve.specs.ChaoticRun.{IsRun}
use Rattle.ce_solve.specs.ClosingVectors.{IsClosingLow, IsClosingHigh}
use Rattle.ce_solve.specs.SolvedRows.{AreInitialBounds, Closing, IsRunOf, IsSolved}
use Rattle.ce_solve.proofs.LoneRuns.{are_two, one_low, one_high, one_low_vector, one_high_vector}

pub same_interval : (i j : Interval) → i.low ≡ j.low → i.high ≡ j.high → i ≡ j
same_interval i j low high = (λ t. record { low = low t; high = high t })

-- The ranks determine the initial bounds.
pub one_bounds : (rows : ScaledRows) (rounds : ℕ) (ranks others : List ℕ) (i j : Interval) → ranks ≡ others
    → AreInitialBounds rows ranks rounds i → AreInitialBounds rows others rounds j → i ≡ j
one_bounds rows rounds ranks others i j same h k =
    let low = h.low ∙ (ap (λ (n : List ℕ). low_of rows n (power_vector rows.list n rounds)) same ∙ sym k.low) in
    let high = h.high ∙ (ap (λ (n : List ℕ). high_of rows n (power_vector rows.list n rounds)) same ∙ sym k.high) in
    same_interval i j low high

-- The rows and the rounds determine where a run begins.
pub one_start : (rows : ScaledRows) (rounds : ℕ) (r s : Run) → AreRows rows.list → IsRunOf rows rounds r
    → IsRunOf rows rounds s → r ≡ s
one_start rows rounds r s are h k =
    let ranks = numbering_unique rows.list are r.ranks s.ranks h.numbering k.numbering in
    let list : rows_of r ≡ rows_of s = h.rows_are ∙ sym k.rows_are in
    let start = h.start_is ∙ (ap (λ (n : List ℕ). start_of rows.list n rounds) ranks ∙ sym k.start_is) in
    let initial = one_bounds rows rounds r.ranks s.ranks r.initial s.initial ranks h.bounds k.bounds in
    (λ i. record {
      rows = (list i).list;
      exponent = (list i).exponent;
      ranks = ranks i;
      start = start i;
      initial = initial i;
    })

pub one_closing : (rows : ScaledRows) (rounds turns : ℕ) (closing other : Closing) → AreScaledRows rows
    → IsSolved rows rounds turns 1 closing → IsSolved rows rounds turns 1 other → closing.evidence ≡ other.evidence
one_closing rows rounds turns closing other are h k =
    let e : Evidence = closing.evidence in
    let f : Evidence = other.evidence in
    let same : k.run ≡ h.run = one_start rows rounds k.run h.run are.rows k.run_of h.run_of in
    let beginning : Run → List ℕ = λ r. power_vector rows.list r.ranks rounds in
    let run = subst (λ (r : Run). IsRun r turns k.places f.low f.high) same k.is_run in
    let two = are_two h.run turns h.places k.places e.low e.high f.low f.high h.all_workers k.all_workers h.is_run run
    in
    let low = one_low h.run turns h.places k.places e.low e.high f.low f.high two in
    let high = one_high h.run turns h.places k.places e.low e.high f.low f.high two in
    let shows_low = subst (λ (r : Run). IsClosingLow r r.initial.low (beginning r) k.places f.low f.low_vector) same
    k.low_vector in
    let low_vector = one_low_vector h.run turns h.places k.places e.low e.high f.low f.high two (beginning h.run)
    e.low_vector f.low_vector h.low_vector shows_low in
    let shows_high =
    subst (λ (r : Run). IsClosingHigh r r.initial.high (beginning r) k.places f.high f.high_vector) same
    k.high_vector in
    let high_vector = one_high_vector h.run turns h.places k.places e.low e.high f.low f.high two (beginning h.run)
    e.high_vector f.high_vector h.high_vector shows_high in
    let ranks = ap (λ (r : Run). r.ranks) (sym same) in
    let low_rank = h.low_rank ∙ ((λ i. low_rank_of rows (ranks i) (low_vector i)) ∙ sym k.low_rank) in
    let shown_ranks = h.ranks ∙ (ranks ∙ sym k.ranks) in
    (λ i. record {
      ranks = shown_ranks i;
      low_rank = low_rank i;
      low_vector = low_vector i;
      high_vector = high_vector i;
      low = low i;
      high = high i;
    })
