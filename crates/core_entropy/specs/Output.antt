-- What a task reads and writes, by the status that it ends with. Source: this project's choice.
use Rattle.std.specs.Prelude.{◌≡◌, ◌≤◌, ◌+◌, ◌⊎◌, ℕ, List, Option, None, Some}
use Rattle.std.specs.Io.KnownBytes.{IsAtEnd}
use Rattle.ce_port.specs.ReadAll.{Gave}
use Rattle.ce_port.specs.Sink.{GrewBy, Rose}
use Rattle.ce_port.specs.WriteAll.{GrewByPrefix}
use Rattle.core_entropy.specs.Calls.{CallsFor, IsInput}
use Rattle.core_entropy.specs.Status.{IsCalledFor, IsUnheard}
use Rattle.core_entropy.specs.Task.{Task}
use Rattle.core_entropy.specs.declared.status.Status.{Status}
use Rattle.core_entropy.specs.declared.status.Status.TheVariants.{Done, Refused, InputTooLong, ReadFault, WriteFault}
use Rattle.core_entropy.specs.declared.status.Status.TheVariants.{NoMemory}

-- Told bytes grew by some prefix of a text of these.
abbrev pub GrewByPart : (List ℕ → Type 0) → Option (List ℕ) → Option (List ℕ) → Type 0
GrewByPart IsText old now = (text : List ℕ) × IsText text × GrewByPrefix old now text

-- What was done to a sink: where the input was answered, it grew by a text of these; where it failed,
-- by a prefix of one, and it counted a fault; out of memory, by nothing or a prefix; else it is as it
-- was.
abbrev pub Wrote : {O : Type 0} → (O → Option (List ℕ)) → (O → ℕ) → (List ℕ → Type 0) → Status → O → O → Type 0
Wrote taken faults IsText Done old now = (text : List ℕ) × IsText text × GrewBy (taken old) (taken now) text
Wrote taken faults IsText Refused old now = (text : List ℕ) × IsText text × GrewBy (taken old) (taken now) text
Wrote taken faults IsText WriteFault old now =
    GrewByPart IsText (taken old) (taken now) × Rose (faults old) (faults now)
Wrote taken faults IsText NoMemory old now = (now ≡ old) ⊎ GrewByPart IsText (taken old) (taken now)
Wrote taken faults IsText _ old now = now ≡ old

-- How a command's task ended whose input was read: with no status of words and reading; with the one
-- that is called for, unless writing failed or memory was refused; and by it a text was written.
pub record HasEnded {O : Type 0} (taken : O → Option (List ℕ)) (faults : O → ℕ) (task : Task) (input : List ℕ)
    (status : Status) (old now : O) : Type 0 where
  pub heard : ¬ (IsUnheard status)
  pub called : IsCalledFor status → CallsFor task input status
  pub wrote : Wrote taken faults (task.Writes input) status old now

-- How a task ended on what a source has left.
pub record HasEndedOn {O : Type 0} (taken : O → Option (List ℕ)) (faults : O → ℕ) (task : Task) (left : Option (List ℕ))
    (status : Status) (old now : O) : Type 0 where
  pub input : List ℕ
  pub is_input : IsInput task.limit left input
  pub called : IsCalledFor status → CallsFor task input status
  pub wrote : Wrote taken faults (task.Writes input) status old now

abbrev pub GaveAtMost : ℕ → Option (List ℕ) → Option (List ℕ) → Type 0
GaveAtMost limit old now = (n : ℕ) × (n ≤ limit) × Gave n old now

-- What was done to a source by a task that reads at most so much: where it reads nothing, nothing.
-- Too long, one byte more was taken; where it failed it counted a fault; else it was read to its end,
-- unless memory was refused.
abbrev pub HasRead : {S : Type 0} → (S → Option (List ℕ)) → (S → ℕ) → Option ℕ → Status → S → S → Type 0
HasRead left faults None ReadFault old now = ⊥
HasRead left faults None status old now = now ≡ old
HasRead left faults (Some limit) InputTooLong old now = Gave (limit + 1) (left old) (left now)
HasRead left faults (Some limit) ReadFault old now =
    GaveAtMost limit (left old) (left now) × Rose (faults old) (faults now)
HasRead left faults (Some limit) NoMemory old now = GaveAtMost limit (left old) (left now)
HasRead left faults (Some limit) _ old now = GaveAtMost limit (left old) (left now) × IsAtEnd (left now)

-- A line was written, or where the count of faults rose a prefix of it.
abbrev pub WroteLine : List ℕ → Option (List ℕ) → Option (List ℕ) → ℕ → ℕ → Type 0
WroteLine line old now before after = GrewBy old now line ⊎ (GrewByPrefix old now line × Rose before after)
