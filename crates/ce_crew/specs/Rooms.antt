-- A worker's room: its private copy and its best vectors. Source: this project's choice.
use Rattle.std.specs.Prelude.{◌≡◌, ℕ, List, length}
use Rattle.ce_cert.specs.Certificate.{AreBoundsIn}
use Rattle.ce_cert.specs.declared.ends.Bounds.{Bounds}
use Rattle.ce_cert.specs.Vectors.{IsVectorOf}
use Rattle.ce_words.specs.Views.{rows_of}
use Rattle.ce_words.specs.declared.view.Run.{Run}
use Rattle.ce_rows.specs.declared.act.LogEntry.{LogEntry}
use Rattle.ce_crew.specs.Best.{IsBestLow, IsBestHigh}
use Rattle.ce_crew.specs.declared.room.WorkRoom.{WorkRoom}

-- Bounds are those of a vector by the rows and ranks of a run.
abbrev pub AreBoundsOf : Run → List ℕ → Bounds → Type 0
AreBoundsOf run vector b = AreBoundsIn (rows_of run) run.ranks vector b

-- A room as it is made from a vector with its bounds.
pub record IsNewRoom (vector : List ℕ) (first : Bounds) (room : WorkRoom) : Type 0 where
  pub copy : room.copy.items ≡ vector
  pub scratch : room.scratch.items ≡ vector
  pub low_vector : room.low_vector.items ≡ vector
  pub low : room.low ≡ first
  pub high_vector : room.high_vector.items ≡ vector
  pub high : room.high ≡ first

-- A room has vectors of a run, and the bounds of its best vectors.
pub record IsRoomOf (run : Run) (room : WorkRoom) : Type 0 where
  pub copy : IsVectorOf (rows_of run) room.copy.items
  pub scratch : length room.scratch.items ≡ length run.rows
  pub low_vector : IsVectorOf (rows_of run) room.low_vector.items
  pub low : AreBoundsOf run room.low_vector.items room.low
  pub high_vector : IsVectorOf (rows_of run) room.high_vector.items
  pub high : AreBoundsOf run room.high_vector.items room.high

-- Where a room has the best vectors of a log, another room has those of another log, whatever they
-- began with.
abbrev pub KeepsBest : Run → List LogEntry → WorkRoom → List LogEntry → WorkRoom → Type 0
KeepsBest run log room log_after room_after =
    ((initial : ℕ) (beginning : List ℕ) → IsBestLow run initial beginning log room.low.low room.low_vector.items
    → IsBestLow run initial beginning log_after room_after.low.low room_after.low_vector.items)
    × ((initial : ℕ) (beginning : List ℕ) → IsBestHigh run initial beginning log room.high.high room.high_vector.items
    → IsBestHigh run initial beginning log_after room_after.high.high room_after.high_vector.items)
