-- With no turns the certificate of a run is determined by rows and rounds.
use Rattle.std.proofs.Common.{◌≡◌, ◌∙◌, ℕ, List, sym, ap, subst}
use Rattle.ce_angle.specs.Fraction.{Fraction}
use Rattle.ce_cert.specs.Certificate.{Evidence}
use Rattle.ce_cert.specs.Quotients.{low_rank_of}
use Rattle.ce_orbit.specs.Orbit.{ForwardOrbit}
use Rattle.ce_orbit.proofs.Unique.{one_orbit}
use Rattle.ce_rows.specs.Rows.{AreRows, ScaledRows}
use Rattle.ce_thurston.specs.Indices.{rows_at}
use Rattle.ce_thurston.proofs.OrbitRows.{rows_in_range}
use Rattle.ce_vector.specs.PowerIteration.{power_vector}
use Rattle.ce_words.specs.declared.view.Run.{Run}
use Rattle.ce_solve.specs.SolvedAngle.{IsSolutionFor, MaySolve}
use Rattle.ce_solve.specs.SolvedRows.{Closing, IsSolved}
use Rattle.ce_solve.specs.declared.settings.Settings.{Settings}
use Rattle.ce_solve.proofs.LoneClosing.{one_start}
use Rattle.ce_solve.proofs.NoTurns.{low_stays, high_stays, low_vector_stays, high_vector_stays}

-- the certificate of a run's initial enclosure
abbrev initial_evidence : ScaledRows → ℕ → Run → Evidence
initial_evidence rows rounds run =
    let vector = power_vector rows.list run.ranks rounds in
    record {
      ranks = run.ranks;
      low_rank = low_rank_of rows run.ranks vector;
      low_vector = vector;
      high_vector = vector;
      low = run.initial.low;
      high = run.initial.high;
    }

is_initial : (rows : ScaledRows) (rounds workers : ℕ) (closing : Closing) (h : IsSolved rows rounds 0 workers closing)
    → closing.evidence ≡ initial_evidence rows rounds h.run
is_initial rows rounds workers closing h =
    let e = closing.evidence in
    let vector = power_vector rows.list h.run.ranks rounds in
    let low = low_stays h.run e.low e.high h.places h.is_run in
    let high = high_stays h.run e.low e.high h.places h.is_run in
    let low_vector =
    low_vector_stays h.run e.low e.high h.places h.is_run vector e.low_vector h.low_vector in
    let high_vector =
    high_vector_stays h.run e.low e.high h.places h.is_run vector e.high_vector h.high_vector in
    let rank = h.low_rank ∙ ap (λ (v : List ℕ). low_rank_of rows h.run.ranks v) low_vector in
    (λ i. record {
      ranks = h.ranks i;
      low_rank = rank i;
      low_vector = low_vector i;
      high_vector = high_vector i;
      low = low i;
      high = high i;
    })

pub still_closing : (rows : ScaledRows) (rounds workers others : ℕ) (closing other : Closing) → AreRows rows.list
    → IsSolved rows rounds 0 workers closing → IsSolved rows rounds 0 others other → closing.evidence ≡ other.evidence
still_closing rows rounds workers others closing other are h k =
    is_initial rows rounds workers closing h
    ∙ ap (initial_evidence rows rounds) (one_start rows rounds h.run k.run are h.run_of k.run_of)
    ∙ sym (is_initial rows rounds others other k)

-- So is that of a run for an angle.
pub still_answer : (settings : Settings) (angle : Fraction) (x y : Closing) → settings.turns ≡ 0
    → MaySolve settings angle x → MaySolve settings angle y → x.evidence ≡ y.evidence
still_answer settings angle x y none h k =
    let orbit = one_orbit k.orbit h.orbit k.is_orbit h.is_orbit (k.of_angle ∙ sym h.of_angle) in
    let there = subst (λ (o : ForwardOrbit). IsSolutionFor settings o y) orbit k.solution in
    let rows = rows_at h.orbit settings.scale in
    let one = subst (λ n. IsSolved rows settings.rounds n settings.workers x) none h.solution in
    let two = subst (λ n. IsSolved rows settings.rounds n settings.workers y) none there in
    let are = rows_in_range h.orbit h.is_orbit h.few in
    still_closing rows settings.rounds settings.workers settings.workers x y are one two
