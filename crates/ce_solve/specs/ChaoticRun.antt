-- Runs of workers, after the fact: logs of an asynchronous iteration with several actors. Source:
-- [ChazanMiranker1969], where each entry is relaxed again and again with values that other
-- entries had at some earlier time; what is asked of the answers here is what the words promise.
--
-- part_of         the part of a worker: an even share of the entries
-- IsLogOf         a log is the turns that were told, or fewer turns and a halt
-- IsRun           logs are a run from where it begins to its closing bounds
-- HasKnownEnds    the ends of an interval are initial, or were certified in the run
use Rattle.std.specs.Prelude.{◌≡◌, ℕ, ◌+◌, ◌*◌, ◌/◌, ◌<◌, ◌⊎◌, List, length}
use mathlib.Core.Option.{some}
use lib.ListN.{get_elem?}
use Rattle.ce_words.specs.Invariant.{IsGreatest, IsLeast}
use Rattle.ce_words.specs.Logs.{is_raise, is_lower, is_stop, times, halts, total, Each, IsPossibleLog}
use Rattle.ce_words.specs.Views.{part}
use Rattle.ce_words.specs.declared.view.Run.{Run}
use Rattle.ce_words.specs.declared.view.Part.{Part}
use Rattle.ce_words.specs.declared.view.Place.{Place}
use Rattle.ce_crew.specs.WorkerLogs.{IsTurns, IsHaltedAfter}

-- the part of a worker, of so many entries in all and among so many workers
abbrev pub part_of : ℕ → ℕ → ℕ → Part
part_of entries workers k = part (k * entries / workers) ((k + 1) * entries / workers)

-- A log is all turns that were told and nothing else; or fewer and one halt, and then the closing
-- bounds are equal.
abbrev pub IsLogOf : Run → ℕ → ℕ → ℕ → Place → Type 0
IsLogOf run turns low high p =
    ((made : ℕ) × IsTurns run p.part turns p.log made)
    ⊎ ((done : ℕ) × (done < turns) × IsHaltedAfter run p.part done p.log × (low ≡ high))

-- Some log of these certified a low bound, or a high bound.
abbrev pub IsCertifiedLow : List Place → ℕ → Type 0
IsCertifiedLow places low = 0 < total (λ (p : Place). times is_raise low p.log) places

abbrev pub IsCertifiedHigh : List Place → ℕ → Type 0
IsCertifiedHigh places high = 0 < total (λ (p : Place). times is_lower high p.log) places

-- Some log of these found the stop word set, or set it.
abbrev pub IsStopFound : List Place → Type 0
IsStopFound places = 0 < total (λ (p : Place). halts p.log) places

abbrev pub IsStopSet : List Place → Type 0
IsStopSet places = 0 < total (λ (p : Place). times is_stop 1 p.log) places

-- The logs of the owners of these parts are a run with so many turns to the closing bounds.
pub record IsRun (run : Run) (turns : ℕ) (places : List Place) (low high : ℕ) : Type 0 where
  -- the parts divide the vector evenly
  pub parts : (k : ℕ) (p : Place) → get_elem? places k ≡ some p → p.part ≡ part_of (length run.rows) (length places) k
  -- each log is turns, in which each number is the one that the machine computes
  pub logs : Each (IsLogOf run turns low high) places
  -- each load answered a value that its entry had, an own one the last; the bounds and the count of
  -- rescalings answered what was seen, offered and possible
  pub answers : Each (IsPossibleLog run (λ g. total g places)) places
  -- where a log found the stop word set, a log of the run set it
  pub stopped : IsStopFound places → IsStopSet places
  -- the closing bounds are the best of the initial enclosure and of all that was certified
  pub greatest : IsGreatest run.initial.low (IsCertifiedLow places) low
  pub least : IsLeast run.initial.high (IsCertifiedHigh places) high

-- The ends of an interval are those of the initial enclosure, or were certified in the run.
pub record HasKnownEnds (run : Run) (places : List Place) (low high : ℕ) : Type 0 where
  pub low_end : (low ≡ run.initial.low) ⊎ IsCertifiedLow places low
  pub high_end : (high ≡ run.initial.high) ⊎ IsCertifiedHigh places high
