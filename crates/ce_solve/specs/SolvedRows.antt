-- What a whole run over rows came to. Source: this project's choice.
--
-- AreInitialBounds   the initial enclosure, by the ranks of the components
-- IsRunOf            where a run begins: its components, its vector, and its initial enclosure
-- Closing            what a run hands out: a certificate's lists and numbers, and the readings
-- IsSolved           it is the closing of a run of so many workers (`solve_rows`, clause `solved`; the law
--                    `solved_runs_enclose` says what it is worth)
-- AreReadingsFrom    readings stand by session and then by number (`solve_rows`, clause `readings`)
use Rattle.std.specs.Prelude.{◌≡◌, ◌+◌, ◌++◌, ℕ, zero, suc, List, [], length}
use Rattle.ce_cert.specs.Certificate.{Evidence, IsCertificate}
use Rattle.ce_cert.specs.Evidence.{evidence_in}
use Rattle.ce_cert.specs.Quotients.{low_of, low_rank_of, high_of}
use Rattle.ce_comp.specs.Numbering.{IsNumbering}
use Rattle.ce_rows.specs.Rows.{ScaledRows}
use Rattle.ce_rows.specs.declared.interval.Interval.{Interval}
use Rattle.ce_vector.specs.PowerIteration.{power_vector}
use Rattle.ce_vector.specs.Start.{start_of}
use Rattle.ce_words.specs.Logs.{Each}
use Rattle.ce_words.specs.Steps.{LiesInside}
use Rattle.ce_live.specs.Sessions.{AreNumbered, NeverWiden}
use Rattle.ce_live.specs.declared.reading.Reading.{Reading}
use Rattle.ce_words.specs.Views.{rows_of}
use Rattle.ce_words.specs.declared.view.Place.{Place}
use Rattle.ce_words.specs.declared.view.Run.{Run}
use Rattle.ce_solve.specs.ChaoticRun.{IsRun, HasKnownEnds}
use Rattle.ce_solve.specs.ClosingVectors.{IsClosingLow, IsClosingHigh}
use Rattle.ce_solve.specs.declared.collecting.Solved.{Solved}

-- The ends of an interval are the Collatz-Wielandt bounds, by these ranks, of the vector after so many
-- rounds of power iteration. Sources: [HornJohnson], chapter 8; [Collatz1942], [Wielandt1950].
pub record AreInitialBounds (rows : ScaledRows) (ranks : List ℕ) (rounds : ℕ) (interval : Interval) : Type 0 where
  pub low : interval.low ≡ low_of rows ranks (power_vector rows.list ranks rounds)
  pub high : interval.high ≡ high_of rows ranks (power_vector rows.list ranks rounds)

-- A run of rows after so many rounds of power iteration: within the strongly connected components,
-- from the vector scaled up, and from the initial bounds.
pub record IsRunOf (rows : ScaledRows) (rounds : ℕ) (run : Run) : Type 0 where
  pub rows_are : rows_of run ≡ rows
  pub numbering : IsNumbering rows.list run.ranks
  pub start_is : run.start ≡ start_of rows.list run.ranks rounds
  pub bounds : AreInitialBounds rows run.ranks rounds run.initial

-- What a run hands out: the lists and numbers of the certificate, and the readings.
pub record Closing : Type 0 where
  pub evidence : Evidence
  pub readings : List Reading

abbrev pub closing_in : Solved → Closing
closing_in s = record { evidence = evidence_in s.certificate; readings = s.readings.items }

-- What is handed out is the closing of a run of so many workers, each with so many turns.
pub record IsSolved (rows : ScaledRows) (rounds turns workers : ℕ) (c : Closing) : Type 0 where
  pub run : Run
  pub run_of : IsRunOf rows rounds run
  pub places : List Place
  pub all_workers : length places ≡ workers
  pub is_run : IsRun run turns places c.evidence.low c.evidence.high
  pub certificate : IsCertificate rows c.evidence
  pub ranks : c.evidence.ranks ≡ run.ranks
  pub low_rank : c.evidence.low_rank ≡ low_rank_of rows run.ranks c.evidence.low_vector
  pub low_vector : IsClosingLow run run.initial.low (power_vector rows.list run.ranks rounds) places
      c.evidence.low c.evidence.low_vector
  pub high_vector : IsClosingHigh run run.initial.high (power_vector rows.list run.ranks rounds) places
      c.evidence.high c.evidence.high_vector
  pub contain : Each
      (λ (r : Reading). LiesInside r.interval.low r.interval.high c.evidence.low c.evidence.high) c.readings
  pub inside_initial : Each
      (λ (r : Reading). LiesInside run.initial.low run.initial.high r.interval.low r.interval.high) c.readings
  pub ends : Each (λ (r : Reading). HasKnownEnds run places r.interval.low r.interval.high) c.readings

-- The readings of one session: so many, numbered from 0, and never wider than those before.
pub record AreOfSession (session reads : ℕ) (own : List Reading) : Type 0 where
  pub all : length own ≡ reads
  pub numbered : AreNumbered session 0 own
  pub never_widen : NeverWiden own

-- Readings stand by session: so many sessions from a number on, each with so many readings.
abbrev pub AreReadingsFrom : ℕ → ℕ → ℕ → List Reading → Type 0
AreReadingsFrom first zero reads list = list ≡ []
AreReadingsFrom first (suc sessions) reads list =
    (own : List Reading) × (rest : List Reading) × (list ≡ own ++ rest) × AreOfSession first reads own
    × AreReadingsFrom (first + 1) sessions reads rest
