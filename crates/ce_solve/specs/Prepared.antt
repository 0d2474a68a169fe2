-- What a run begins with. Source: this project's choice.
--
-- IsPrepared     components, a vector of power iteration, and its bounds (`prepare`, clause `prepared`)
-- MayBegin       a run may begin with them (`prepare`, clause `begins`)
-- IsOpenedFor    the start of a run on these: the vector scaled up, the bounds as initial enclosure
--                (`open_board`, clause `run`)
-- IsRunFor       some run was opened for what was prepared (`hire`, clause `opened`)
use Rattle.std.specs.Prelude.{◌≡◌, ◌^◌, ◌<◌, ℕ, All}
use Rattle.ce_cert.specs.Certificate.{AreBoundsIn}
use Rattle.ce_cert.specs.Start.{IsStart}
use Rattle.ce_comp.specs.Numbering.{IsNumbering}
use Rattle.ce_rows.specs.Rows.{ScaledRows}
use Rattle.ce_vector.specs.PowerIteration.{power_vector}
use Rattle.ce_vector.specs.Start.{scaled_up}
use Rattle.ce_words.specs.Views.{rows_of}
use Rattle.ce_words.specs.declared.view.Run.{Run}
use Rattle.ce_crew.specs.Gains.{IsRunStart}
use Rattle.ce_solve.specs.declared.preparing.Prepared.{Prepared}

-- The components of rows, their vector of power iteration, and its bounds.
pub record IsPrepared (rows : ScaledRows) (rounds : ℕ) (p : Prepared) : Type 0 where
  pub numbering : IsNumbering rows.list p.ranks.ranks
  pub vector : p.vector.items ≡ power_vector rows.list p.ranks.ranks rounds
  pub bounds : AreBoundsIn rows p.ranks.ranks p.vector.items p.bounds

-- A run may begin with a ranking, a vector and an interval: they may start a run as they are, and the vector
-- has room to be scaled up.
pub record MayBegin (rows : ScaledRows) (p : Prepared) : Type 0 where
  pub start : IsStart rows p.ranks.ranks p.vector.items p.bounds.low p.bounds.high
  pub small : All (λ x. x < 2 ^ 58) p.vector.items

-- The start of a run on what was prepared.
pub record IsOpenedFor (rows : ScaledRows) (p : Prepared) (run : Run) : Type 0 where
  pub rows_are : rows_of run ≡ rows
  pub ranks_are : run.ranks ≡ p.ranks.ranks
  pub low : run.initial.low ≡ p.bounds.low
  pub high : run.initial.high ≡ p.bounds.high
  pub start_is : run.start ≡ scaled_up p.vector.items
  pub starts : IsRunStart run

-- A run was opened for what was prepared, of some rows and rounds.
abbrev pub IsRunFor : Prepared → Run → Type 0
IsRunFor p run = (rows : ScaledRows) × (rounds : ℕ) × IsPrepared rows rounds p × MayBegin rows p
    × IsOpenedFor rows p run
