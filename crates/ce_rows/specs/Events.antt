-- Events of a run: what a step of an actor does to the state that all actors share. Source:
-- [ChazanMiranker1969] for the asynchronous iteration; the words and their steps are this project's
-- choice.
use Rattle.std.specs.Prelude.{ℕ, ⊤, ◌<◌, max, min, List, slice_index, slice_set}
use Rattle.ce_rows.specs.declared.act.Act.{Act}
use Rattle.ce_rows.specs.declared.act.Act.TheVariants.{Loads, Relaxes, Shrinks, LoadsLow, LoadsHigh, Raises, Lowers}
use Rattle.ce_rows.specs.declared.act.Act.TheVariants.{LoadsShift, Asks, LoadsStop, Stops}
use Rattle.ce_rows.specs.declared.event.Event.{Event}
use Rattle.ce_rows.specs.declared.event.Event.TheVariants.{Load, Relax, Shrink, Low, High, Raise, Lower, Shift, Ask}
use Rattle.ce_rows.specs.declared.event.Event.TheVariants.{Halted, Stop}

-- an event is an act of an actor
abbrev pub actor_of : Event → ℕ
actor_of (Load actor _) = actor
actor_of (Relax actor _) = actor
actor_of (Shrink actor _) = actor
actor_of (Low actor) = actor
actor_of (High actor) = actor
actor_of (Raise actor) = actor
actor_of (Lower actor) = actor
actor_of (Shift actor) = actor
actor_of (Ask actor) = actor
actor_of (Halted actor) = actor
actor_of (Stop actor) = actor

abbrev pub act_of : Event → Act
act_of (Load _ entry) = Loads entry
act_of (Relax _ entry) = Relaxes entry
act_of (Shrink _ entry) = Shrinks entry
act_of (Low _) = LoadsLow
act_of (High _) = LoadsHigh
act_of (Raise _) = Raises
act_of (Lower _) = Lowers
act_of (Shift _) = LoadsShift
act_of (Ask _) = Asks
act_of (Halted _) = LoadsStop
act_of (Stop _) = Stops

-- The entry that an act, or an event, names, if it names one, is below a number.
abbrev pub IsOnEntryBelow : ℕ → Act → Type 0
IsOnEntryBelow count (Loads entry) = entry < count
IsOnEntryBelow count (Relaxes entry) = entry < count
IsOnEntryBelow count (Shrinks entry) = entry < count
IsOnEntryBelow count _ = ⊤

abbrev pub HasEntryBelow : ℕ → Event → Type 0
HasEntryBelow count event = IsOnEntryBelow count (act_of event)

-- the entries of the vector, the bounds, the greatest number of rescalings that was asked for, and
-- the stop word, which is 0 or 1
pub record Shared : Type 0 where
  pub entries : List ℕ
  pub low : ℕ
  pub high : ℕ
  pub shift : ℕ
  pub stop : ℕ

-- The shared state after an act that carries a number: the value that is stored, the bound that is
-- compared with the word, the number of rescalings that is asked for, and 1 where the stop word is
-- to be set. Only the entries and the high bound can fall.
abbrev pub after_act : Shared → Act → ℕ → Shared
after_act s (Relaxes i) number = record s { entries = slice_set s.entries i number }
after_act s (Shrinks i) number = record s { entries = slice_set s.entries i number }
after_act s Raises number = record s { low = max s.low number }
after_act s Lowers number = record s { high = min s.high number }
after_act s Asks number = record s { shift = max s.shift number }
after_act s Stops number = record s { stop = max s.stop number }
after_act s _ _ = s

-- what the act answers: what was loaded, or what stands there afterwards
abbrev pub answer_of : Shared → Act → ℕ → ℕ
answer_of s (Loads i) _ = slice_index s.entries i
answer_of s (Relaxes i) number = number
answer_of s (Shrinks i) number = number
answer_of s LoadsLow _ = s.low
answer_of s LoadsHigh _ = s.high
answer_of s Raises number = max s.low number
answer_of s Lowers number = min s.high number
answer_of s LoadsShift _ = s.shift
answer_of s Asks number = max s.shift number
answer_of s LoadsStop _ = s.stop
answer_of s Stops number = max s.stop number
