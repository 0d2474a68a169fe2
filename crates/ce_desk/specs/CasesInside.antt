-- The opened angles behind a desk: what session and crew own of each. Source: this project's choice.
use Rattle.std.specs.Prelude.{◌≡◌, ℕ, ◌+◌, ◌<◌, ⊤, List, [], ◌∷◌, length, slice_index_or, Option, None, Some}
use Rattle.atomic_table.specs.declared.shared.Seat.{Seat}
use Rattle.ce_crew.specs.Gains.{IsGraphOf}
use Rattle.ce_crew.specs.Workers.{IsWorker}
use Rattle.ce_crew.specs.declared.worker.Worker.{Worker}
use Rattle.ce_live.specs.Sessions.{reading, read_log, NeverWiden}
use Rattle.ce_live.specs.declared.reading.Reading.{Reading}
use Rattle.ce_rows.specs.Rows.{ScaledRows}
use Rattle.ce_rows.specs.declared.interval.Interval.{Interval}
use Rattle.ce_solve.specs.Actors.{IsHiredWorker, IsOverWorker, HasRunWorker}
use Rattle.ce_solve.specs.SolvedRows.{IsRunOf}
use Rattle.ce_words.specs.Logs.{Each}
use Rattle.ce_words.specs.Seats.{Sits, board_run}
use Rattle.ce_words.specs.Steps.{LiesInside}
use Rattle.ce_words.specs.Views.{view, part, seen_low, seen_high}
use Rattle.ce_words.specs.declared.board.Board.{Board}
use Rattle.ce_words.specs.declared.view.Role.TheVariants.{First}
use Rattle.ce_words.specs.declared.view.View.{View}
use Rattle.ce_desk.specs.Desk.{Slot}
use Rattle.ce_desk.specs.declared.case.Case.{Case}
use Rattle.ce_desk.specs.declared.case.Opened.{Opened}
use Rattle.ce_desk.specs.declared.case.SlotSeat.{SlotSeat}

-- intervals as readings of one session, numbered from a number
abbrev pub readings_from : ℕ → List Interval → List Reading
readings_from first [] = []
readings_from first (interval ∷ rest) = reading 0 first interval ∷ readings_from (first + 1) rest

-- The first seat of a board, which saw what was told of a slot and did nothing else.
pub record IsFirstOf (b : Board) (slot : Slot) (first : Seat (Unit {0}) View) : Type 0 where
  pub run : slot.run ≡ board_run b
  pub sits : Sits b first
  pub role : (view first).role ≡ First
  pub joined : (view first).joined ≡ []
  pub out : (view first).out ≡ 1
  pub empty : (view first).place.part.from ≡ (view first).place.part.to
  pub log : (view first).place.log ≡ read_log (readings_from 0 slot.told)
  pub never_widen : NeverWiden (readings_from 0 slot.told)
  pub around : Each
      (λ (r : Reading). LiesInside r.interval.low r.interval.high (seen_low (view first)) (seen_high (view first)))
      (readings_from 0 slot.told)

-- The one worker of a slot before its run, which owns the whole vector.
pub record IsHiredFor (b : Board) (slot : Slot) (worker : Worker) : Type 0 where
  pub beginning : List ℕ
  pub hired : IsHiredWorker b beginning slot.turns worker
  pub whole : worker.part ≡ part 0 (length (board_run b).rows)

-- The same after its run.
pub record IsDoneFor (b : Board) (slot : Slot) (worker : Worker) : Type 0 where
  pub beginning : List ℕ
  pub over : IsOverWorker b beginning worker
  pub turns : worker.turns ≡ slot.turns
  pub whole : worker.part ≡ part 0 (length (board_run b).rows)

-- The rows and ranks of a case are those of its board.
abbrev pub IsCase : Case → Type 0
IsCase c = IsGraphOf (board_run c.board) c.rows c.ranks.ranks

-- What stands behind a slot.
pub record IsOpenSlot (c : Case) (first : Seat (Unit {0}) View) (worker : Worker) (slot : Slot) : Type 0 where
  pub graph : IsCase c
  pub seat : IsFirstOf c.board slot first
  pub hired : IsHiredFor c.board slot worker

-- A case was opened for rows.
pub record IsOpenCase (rows : ScaledRows) (rounds turns : ℕ) (opened : Opened) : Type 0 where
  pub run_of : IsRunOf rows rounds (board_run opened.case.board)
  pub initial : opened.initial ≡ (board_run opened.case.board).initial
  pub behind : (slot : Slot) → slot.turns ≡ turns → slot.run ≡ board_run opened.case.board → slot.told ≡ []
      → IsOpenSlot opened.case opened.first opened.worker slot

-- What stands behind all slots.
pub record AreOpenSlots (cases : List Case) (firsts : List SlotSeat) (workers : List Worker)
    (slots : List Slot) : Type 0 where
  pub firsts_count : length firsts ≡ length cases
  pub workers_count : length workers ≡ length cases
  pub slots_count : length slots ≡ length cases
  pub each : (i : ℕ) (c : Case) (f : SlotSeat) (w : Worker) (x : Slot) → i < length cases
      → IsOpenSlot (slice_index_or cases i c) (slice_index_or firsts i f).seat (slice_index_or workers i w)
      (slice_index_or slots i x)

-- The first seats of all slots.
pub record AreFirsts (cases : List Case) (slots : List Slot) (firsts : List SlotSeat) : Type 0 where
  pub firsts_count : length firsts ≡ length cases
  pub slots_count : length slots ≡ length cases
  pub each : (i : ℕ) (c : Case) (x : Slot) (f : SlotSeat) → i < length cases
      → IsFirstOf (slice_index_or cases i c).board (slice_index_or slots i x) (slice_index_or firsts i f).seat

-- A worker of a case, where there is one, is ready to run.
abbrev pub CanRunSlot : Case → Option Worker → Type 0
CanRunSlot c None = ⊤
CanRunSlot c (Some worker) = IsWorker c.board worker × IsCase c

-- It ran.
abbrev pub HasRunSlot : Case → Option Worker → Option Worker → Type 0
HasRunSlot c None after = after ≡ None
HasRunSlot c (Some worker) after = (w : Worker) × (after ≡ Some w) × HasRunWorker c.board worker w

-- The granted turns of slots are as they were.
pub record KeepsTurns (slots after : List Slot) : Type 0 where
  pub count : length after ≡ length slots
  pub each : (i : ℕ) (x y : Slot) → i < length slots
      → (slice_index_or after i y).turns ≡ (slice_index_or slots i x).turns
