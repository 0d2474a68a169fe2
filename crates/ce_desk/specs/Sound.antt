-- What is true of each slot of a desk. Source: this project's choice.
use Rattle.std.specs.Prelude.{ℕ, All}
use Rattle.ce_orbit.specs.Orbit.{HasOrbitWithin}
use Rattle.ce_rows.specs.Rows.{EnclosesRows}
use Rattle.ce_rows.specs.declared.interval.Interval.{Interval}
use Rattle.ce_solve.specs.SolvedRows.{IsRunOf}
use Rattle.ce_thurston.specs.Indices.{rows_at}
use Rattle.ce_words.specs.Steps.{LiesInside}
use Rattle.ce_words.specs.Views.{rows_of}
use Rattle.ce_words.specs.declared.view.Run.{Run}
use Rattle.ce_desk.specs.Desk.{Slot}
use Rattle.ce_orbit.specs.Iterates.{most_places}

-- An interval encloses the growth rate of the rows of a run, and lies inside the initial enclosure.
pub record IsTrueOf (run : Run) (told : Interval) : Type 0 where
  pub encloses : EnclosesRows (rows_of run) told.low told.high
  pub inside : LiesInside run.initial.low run.initial.high told.low told.high

-- A slot was opened for the orbit of its angle, and the initial enclosure and each interval that was told of it are
-- true.
pub record IsSound (rounds exponent : ℕ) (slot : Slot) : Type 0 where
  pub short : HasOrbitWithin most_places slot.angle
  pub run_of : IsRunOf (rows_at short.orbit exponent) rounds slot.run
  pub initial : EnclosesRows (rows_of slot.run) slot.run.initial.low slot.run.initial.high
  pub told : All (IsTrueOf slot.run) slot.told
