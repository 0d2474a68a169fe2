-- What a piece of a turn does to a worker's log and to its private copy of the vector.
use Rattle.std.specs.Prelude.{◌≡◌, ◌≢◌, ◌<◌, ◌≤◌, ℕ, List, [], ◌∷◌, ◌++◌, length, slice_index, slice_set}
use Rattle.std.specs.List.{flat_map}
use Rattle.ce_cert.specs.Start.{IsStart}
use Rattle.ce_cert.specs.declared.ends.Bounds.{Bounds}
use Rattle.ce_cert.specs.Vectors.{IsVectorOf}
use Rattle.ce_rows.specs.declared.act.Act.{Act}
use Rattle.ce_rows.specs.declared.act.Act.TheVariants.{Loads, Relaxes, Shrinks, Raises, Lowers}
use Rattle.ce_rows.specs.declared.act.LogEntry.{LogEntry}
use Rattle.ce_words.specs.Logs.{is_raise, is_lower, times}
use Rattle.ce_words.specs.Seats.{Sits, board_run}
use Rattle.ce_words.specs.Views.{rows_of, kept, viewed, place, logged, noted}
use Rattle.ce_words.specs.declared.board.Board.{Board}
use Rattle.ce_rows.specs.Rows.{ScaledRows}
use Rattle.ce_words.specs.declared.view.Part.{Part}
use Rattle.ce_words.specs.declared.view.Run.{Run}
use Rattle.ce_words.specs.declared.view.View.{View}
use Rattle.ce_crew.specs.MachineSteps.{acts_of, AreMachineSteps}
use Rattle.ce_crew.specs.Turn.{greatest_relaxed, opening_of, relaxing_acts, closing_acts, entries_between}
use Rattle.ce_crew.specs.Turn.{IsRescaling, IsHalt}
use Rattle.atomic_table.specs.declared.shared.Seat.{Seat}

-- what an act and its answer leave in a copy of the vector
abbrev pub copy_by : Act → ℕ → List ℕ → List ℕ
copy_by (Loads i) answer copy = slice_set copy i answer
copy_by (Relaxes i) answer copy = slice_set copy i answer
copy_by (Shrinks i) answer copy = slice_set copy i answer
copy_by _ answer copy = copy

abbrev pub copied : List ℕ → List LogEntry → List ℕ
copied copy [] = copy
copied copy (step ∷ steps) = copied (copy_by step.act step.answer copy) steps

-- a view with more steps in its log
abbrev pub grown : View → List LogEntry → View
grown v steps = viewed v.run v.role (place v.place.part (v.place.log ++ steps)) v.joined v.out

-- A worker's log gained steps of the machine that do these acts, of which the greatest relaxed value
-- is this; the same was done to its private copy.
pub record Gains (acts : List Act) (greatest : ℕ) (v w : View) (copy copy_after : List ℕ) : Type 0 where
  pub steps : List LogEntry
  pub view_is : w ≡ grown v steps
  pub acts_are : acts_of steps ≡ acts
  pub machine : AreMachineSteps v.run (kept v.run v.place.log) steps
  pub copy_is : copy_after ≡ copied copy steps
  pub greatest_is : greatest ≡ greatest_relaxed steps

-- A run starts where a run may start.
abbrev pub IsRunStart : Run → Type 0
IsRunStart run = IsStart (rows_of run) run.ranks run.start run.initial.low run.initial.high

-- A worker is at work: its seat sits at the board, and its private copy is a vector.
pub record IsAtWork (b : Board) (s : Seat (Unit {0}) View) (copy : List ℕ) : Type 0 where
  pub sits : Sits b s
  pub vector : IsVectorOf (rows_of (board_run b)) copy

-- Rows and ranks are those of a run.
pub record IsGraphOf (run : Run) (rows : ScaledRows) (ranks : List ℕ) : Type 0 where
  pub rows_are : rows ≡ rows_of run
  pub ranks_are : ranks ≡ run.ranks
  pub each : length ranks ≡ length rows.list

-- The private copy has each entry of a part as the log has it.
abbrev pub HasLoaded : Run → View → Part → List ℕ → Type 0
HasLoaded run v p copy =
    (e : ℕ) → p.from ≤ e → e < p.to → slice_index copy e ≡ slice_index (kept run v.place.log).copy e

-- What a turn does about great entries, with the steps that it takes for it.
pub record GainsRescaling (p : Part) (made asked greatest : ℕ) (v w : View) (copy copy_after : List ℕ) : Type 0 where
  pub acts : List Act
  pub gains : Gains acts 0 v w copy copy_after
  pub rescales : IsRescaling p made asked greatest acts

-- A turn began: its first steps, between bounds that are apart.
pub record Opens (low high asked : ℕ) (v w : View) : Type 0 where
  pub view_is : w ≡ grown v (opening_of low high asked)
  pub apart : low ≢ high
  pub machine : AreMachineSteps v.run (kept v.run v.place.log) (opening_of low high asked)

-- A worker halted in place of a turn.
pub record Halts (v w : View) : Type 0 where
  pub halt : List LogEntry
  pub is_halt : IsHalt halt
  pub view_is : w ≡ grown v halt

-- Bounds were offered to the shared ones.
pub record Offers (b : Bounds) (v w : View) : Type 0 where
  pub raised : ℕ
  pub lowered : ℕ
  pub view_is : w ≡ noted (noted v (logged Raises b.low raised)) (logged Lowers b.high lowered)

-- A turn goes on after its opening: it relaxes the part, sees to great entries, loads the whole
-- vector and offers its bounds.
pub record Finishes (run : Run) (p : Part) (made asked : ℕ) (v w : View) : Type 0 where
  pub relaxing : List LogEntry
  pub rescaling : List LogEntry
  pub closing : List LogEntry
  pub view_is : w ≡ grown v (relaxing ++ (rescaling ++ closing))
  pub relaxes : acts_of relaxing ≡ flat_map (relaxing_acts run) (entries_between p.from p.to)
  pub rescales : IsRescaling p made asked (greatest_relaxed relaxing) (acts_of rescaling)
  pub closes : acts_of closing ≡ closing_acts run
  pub machine : AreMachineSteps v.run (kept v.run v.place.log) (relaxing ++ (rescaling ++ closing))

-- After steps that certify nothing, a log offered the bounds of its copy, low and then high.
pub record EndsOffering (run : Run) (b : Bounds) (copy : List ℕ) (log log_after : List LogEntry) : Type 0 where
  pub before : List LogEntry
  pub raised : ℕ
  pub lowered : ℕ
  pub log_is : log_after ≡ ((log ++ before) ++ logged Raises b.low raised ∷ []) ++ logged Lowers b.high lowered ∷ []
  pub no_low : (c : ℕ) → times is_raise c before ≡ 0
  pub no_high : (c : ℕ) → times is_lower c before ≡ 0
  pub copy_is : copy ≡ (kept run (log ++ before)).copy
