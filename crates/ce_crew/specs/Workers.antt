-- Workers, by their fields. Source: this project's choice.
use Rattle.std.specs.Prelude.{◌≡◌, ℕ, ◌+◌, ◌<◌, ◌≤◌, ◌⊎◌, Bool, true, false, List, ◌++◌, length}
use Rattle.atomic_table.specs.declared.shared.Seat.{Seat}
use Rattle.ce_rows.specs.declared.act.LogEntry.{LogEntry}
use Rattle.ce_words.specs.Invariant.{most_rescalings}
use Rattle.ce_words.specs.Seats.{Sits, board_run}
use Rattle.ce_words.specs.Views.{view, kept}
use Rattle.ce_words.specs.declared.board.Board.{Board}
use Rattle.ce_words.specs.declared.view.Part.{Part}
use Rattle.ce_words.specs.declared.view.Run.{Run}
use Rattle.ce_words.specs.declared.view.View.{View}
use Rattle.ce_crew.specs.Gains.{IsRunStart}
use Rattle.ce_crew.specs.Rooms.{IsRoomOf, KeepsBest}
use Rattle.ce_crew.specs.Turn.{IsTurn, IsHalt, rescalings_after}
use Rattle.ce_crew.specs.WorkerLogs.{IsTurns, IsHaltedAfter}
use Rattle.ce_crew.specs.declared.room.WorkRoom.{WorkRoom}
use Rattle.ce_crew.specs.declared.worker.Worker.{Worker}
use Rattle.ce_crew.specs.declared.worker.TurnEnd.{TurnEnd}
use Rattle.ce_crew.specs.declared.worker.TurnEnd.TheVariants.{Turned, Halted}

-- the log of a worker's seat
abbrev pub log_of : Worker → List LogEntry
log_of w = (view w.seat).place.log

-- A worker is new.
pub record IsBegun (r : WorkRoom) (k t : ℕ) (p : Part) (s : Seat (Unit {0}) View) (w : Worker) : Type 0 where
  pub room : w.room ≡ r
  pub number : w.number ≡ k
  pub turns : w.turns ≡ t
  pub done : w.done ≡ 0
  pub made : w.made ≡ 0
  pub halted : w.halted ≡ false
  pub its_part : w.part ≡ p
  pub seat : w.seat ≡ s

-- A log has so many turns, and after them a halt where the worker halted.
abbrev pub HasLog : Run → Part → Bool → ℕ → ℕ → List LogEntry → Type 0
HasLog run p true done made log = IsHaltedAfter run p done log
HasLog run p false done made log = IsTurns run p done log made

-- A worker of a board, between two turns.
pub record IsWorker (b : Board) (w : Worker) : Type 0 where
  pub start : IsRunStart (board_run b)
  pub sits : Sits b w.seat
  pub room : IsRoomOf (board_run b) w.room
  pub its_part : w.part ≡ (view w.seat).place.part
  pub ordered : w.part.from ≤ w.part.to
  pub within : w.part.to ≤ length (board_run b).rows
  -- a turn asks for one rescaling at most
  pub few : w.turns ≤ most_rescalings
  pub some : w.made ≤ w.done
  pub most : w.done ≤ w.turns
  pub left : w.halted ≡ true → w.done < w.turns
  pub log : HasLog (board_run b) w.part w.halted w.done w.made (log_of w)

-- What a turn leaves as it was: the worker's number, its turns, its part and its role; and the best
-- vectors stay those of its log.
pub record KeepsIts (run : Run) (w w' : Worker) : Type 0 where
  pub number : w'.number ≡ w.number
  pub turns : w'.turns ≡ w.turns
  pub its_part : w'.part ≡ w.part
  pub role : (view w'.seat).role ≡ (view w.seat).role
  pub joined : (view w'.seat).joined ≡ (view w.seat).joined
  pub grows : (more : List LogEntry) × (log_of w' ≡ log_of w ++ more)
  pub best : KeepsBest run (log_of w) w.room (log_of w') w'.room

-- A worker's log gained exactly one turn.
pub record HasTurned (run : Run) (w w' : Worker) : Type 0 where
  pub turn : List LogEntry
  pub is_turn : IsTurn run w.part w.made (kept run (log_of w)) turn
  pub log_is : log_of w' ≡ log_of w ++ turn
  pub done : w'.done ≡ w.done + 1
  pub made : w'.made ≡ rescalings_after w.made is_turn.asked
  pub halted : w'.halted ≡ false

-- A worker's log gained exactly one halt.
pub record HasHalted (w w' : Worker) : Type 0 where
  pub halt : List LogEntry
  pub is_halt : IsHalt halt
  pub log_is : log_of w' ≡ log_of w ++ halt
  pub done : w'.done ≡ w.done
  pub halted : w'.halted ≡ true

abbrev pub Made : TurnEnd → Run → Worker → Worker → Type 0
Made Turned run w w' = HasTurned run w w'
Made Halted run w w' = HasHalted w w'

-- A worker that ran has made all its turns or is halted; one that was halted, or had none left, is as
-- it was.
pub record Ran (w w' : Worker) : Type 0 where
  pub ends : (w'.done ≡ w'.turns) ⊎ (w'.halted ≡ true)
  pub rests : (w.halted ≡ true) ⊎ (w.done ≡ w.turns) → w' ≡ w
