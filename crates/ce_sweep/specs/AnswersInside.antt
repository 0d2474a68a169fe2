-- What solving by keys and copying solutions keep.
use Rattle.std.specs.Prelude.{◌≡◌, ◌<◌, ℕ, List, length, slice_index, slice_index_or, IfOk, Result}
use Rattle.ce_angle.specs.Fraction.{Fraction}
use Rattle.ce_orbit.specs.Kneading.{IsKeyOf}
use Rattle.ce_orbit.specs.Orbit.{ForwardOrbit, IsForwardOrbit}
use Rattle.ce_orbit.specs.declared.key.KneadKey.{KneadKey}
use Rattle.ce_rows.specs.declared.no_memory.NoMemory.{NoMemory}
use Rattle.ce_solve.specs.SolvedAngle.{HasReadingsOf, IsSolutionFor}
use Rattle.ce_solve.specs.SolvedRows.{closing_in}
use Rattle.ce_solve.specs.declared.angle.Answer.{Answer}
use Rattle.ce_solve.specs.declared.collecting.Solved.{Solved}
use Rattle.ce_solve.specs.declared.settings.Settings.{Settings}

-- What a run by a key gives serves each orbit with this key, and has all readings.
pub record SolvesKey (settings : Settings) (key : KneadKey) (solved : Solved) : Type 0 where
  pub serves : (o : ForwardOrbit) → IsForwardOrbit o → IsKeyOf o key → IsSolutionFor settings o (closing_in solved)
  pub readings : HasReadingsOf settings (closing_in solved)

abbrev pub MaySolveKey : Settings → KneadKey → Result Solved NoMemory → Type 0
MaySolveKey settings key result = IfOk result (SolvesKey settings key)

-- A key stands at a place of a list.
pub record StandsAt (keys : List KneadKey) (place : ℕ) (key : KneadKey) : Type 0 where
  pub within : place < length keys
  pub here : (d : KneadKey) → slice_index_or keys place d ≡ key

-- An answer has the angle at a place, and the closing of the solution of its class.
pub record IsCopyAt (angles : List Fraction) (of : List ℕ) (solutions : List Solved) (place : ℕ)
    (answer : Answer) : Type 0 where
  pub angle : (d : Fraction) → answer.angle ≡ slice_index_or angles place d
  pub copied : (d : Solved) → closing_in answer.solved
      ≡ closing_in (slice_index_or solutions (slice_index of place) d)

-- Answers stand beside angles, each with the closing of its class.
pub record AreCopies (angles : List Fraction) (of : List ℕ) (solutions : List Solved)
    (answers : List Answer) : Type 0 where
  pub each : length answers ≡ length angles
  pub copies : (k : ℕ) (d : Answer) → k < length angles → IsCopyAt angles of solutions k (slice_index_or answers k d)
