-- What an actor of a run keeps: its copy of the vector, the bounds, and the greatest number of
-- rescalings that was asked for, as it last saw them. Source: this project's choice.
use Rattle.std.specs.Prelude.{ℕ, ◌≤◌, List, fold, slice_set}
use Rattle.ce_rows.specs.Events.{Shared}
use Rattle.ce_rows.specs.declared.act.Act.{Act}
use Rattle.ce_rows.specs.declared.act.Act.TheVariants.{Loads, Relaxes, Shrinks, LoadsLow, LoadsHigh, Raises, Lowers}
use Rattle.ce_rows.specs.declared.act.Act.TheVariants.{LoadsShift}
use Rattle.ce_rows.specs.declared.act.LogEntry.{LogEntry}

pub record ActorState : Type 0 where
  pub copy : List ℕ
  pub low : ℕ
  pub high : ℕ
  pub shift : ℕ

-- an actor at the start: its copy is the start's vector, and its bounds are the initial enclosure
abbrev pub actor_at_start : List ℕ → ℕ → ℕ → ActorState
actor_at_start start low high = record { copy = start; low = low; high = high; shift = 0 }

-- what an actor keeps after an act and its answer
abbrev pub after_answer : ActorState → Act → ℕ → ActorState
after_answer own (Loads i) answer = record own { copy = slice_set own.copy i answer }
after_answer own (Relaxes i) answer = record own { copy = slice_set own.copy i answer }
after_answer own (Shrinks i) answer = record own { copy = slice_set own.copy i answer }
after_answer own LoadsLow answer = record own { low = answer }
after_answer own Raises answer = record own { low = answer }
after_answer own LoadsHigh answer = record own { high = answer }
after_answer own Lowers answer = record own { high = answer }
after_answer own LoadsShift answer = record own { shift = answer }
after_answer own _ _ = own

-- what an actor keeps after a log
abbrev pub actor_after : ActorState → List LogEntry → ActorState
actor_after own log = fold (λ state step. after_answer state step.act step.answer) own log

-- What an actor saw of the bounds is no better than they are.
pub record HasSeen (s : Shared) (own : ActorState) : Type 0 where
  pub low : own.low ≤ s.low
  pub high : s.high ≤ own.high
