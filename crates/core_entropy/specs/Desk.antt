-- The command `desk`: which words ask for one, with which status it ends, and the headline for what it
-- tells. Its text is that of the crate `ce_desk`. Source: this project's choice.
use Rattle.std.specs.Prelude.{◌≡◌, ◌<◌, ◌⊎◌, ℕ, All, Bool, List, length, slice_index_or, Option, Some}
use Rattle.ce_command.specs.Meaning.{command_of}
use Rattle.ce_command.specs.declared.command.Command.{Command}
use Rattle.ce_command.specs.declared.command.Command.TheVariants as command
use Rattle.ce_desk.specs.Desk.{Slot}
use Rattle.ce_desk.specs.DeskText.{IsDeskText, IsOpeningText}
use Rattle.ce_desk.specs.Served.{HasServed}
use Rattle.ce_desk.specs.declared.closing.Closing.{Closing}
use Rattle.ce_desk.specs.declared.serving.DeskStop.{DeskStop}
use Rattle.ce_desk.specs.declared.serving.DeskStop.TheVariants as stop
use Rattle.ce_port.specs.WriteAll.{GrewByPrefix}
use Rattle.core_entropy.specs.Headline.{IsTrueClaim}
use Rattle.core_entropy.specs.Task.{solved}
use Rattle.core_entropy.specs.declared.status.Status.{Status}
use Rattle.core_entropy.specs.declared.status.Status.TheVariants.{Done, InputTooLong, ReadFault, WriteFault, NoMemory}

-- Words ask for a desk: its rounds, the actors of its crew, and the exponent of its scale.
abbrev pub AskForDesk : List (List ℕ) → ℕ → ℕ → ℕ → Type 0
AskForDesk words rounds workers exponent = command_of words ≡ Some (command.Desk rounds workers exponent)

-- Words ask for some desk.
abbrev pub AskForAnyDesk : List (List ℕ) → Type 0
AskForAnyDesk words = (rounds workers exponent : ℕ) × AskForDesk words rounds workers exponent

-- A command is `desk`, which has a call of its own.
abbrev pub IsDesk : Command → Type 0
IsDesk asked = (rounds workers exponent : ℕ) × (asked ≡ command.Desk rounds workers exponent)

abbrev pub status_of : DeskStop → Status
status_of stop.Done = Done
status_of stop.InputTooLong = InputTooLong
status_of stop.ReadFault = ReadFault
status_of stop.WriteFault = WriteFault
status_of stop.NoMemory = NoMemory

-- A desk was served over its streams, and ended with a status.
abbrev pub HasRunDesk : {S O : Type 0} → (S → Option (List ℕ)) → (S → ℕ) → (O → Option (List ℕ)) → (O → ℕ)
    → ℕ → ℕ → S → O → Status → S → O → Type 0
HasRunDesk left read_faults taken write_faults rounds exponent source out status source_after out_after =
    (s : DeskStop) × (status ≡ status_of s)
    × HasServed left read_faults taken write_faults rounds exponent source out
    (record { stop = s; source = source_after; out = out_after })

-- What was told of a slot is true of its angle: the initial enclosure, and each interval that was read.
pub record IsTrueSlot (rounds exponent : ℕ) (slot : Slot) : Type 0 where
  pub initial : IsTrueClaim (solved slot.angle rounds exponent slot.run.initial)
  pub told : All (λ told. IsTrueClaim (solved slot.angle rounds exponent told)) slot.told

-- So is the closing interval of each slot.
abbrev pub AreTrueClosings : ℕ → ℕ → List Slot → List Closing → Type 0
AreTrueClosings rounds exponent slots closings = (i : ℕ) (x : Slot) (c : Closing) → i < length slots
    → IsTrueClaim (solved (slice_index_or slots i x).angle rounds exponent (slice_index_or closings i c).interval)

-- Each interval in a text of a desk is true.
pub record TellsTruly (rounds exponent : ℕ) (lines : List (Option (List ℕ))) (quits : Bool)
    (text : List ℕ) : Type 0 where
  pub is_text : IsDeskText rounds exponent lines quits text
  pub slots : All (IsTrueSlot rounds exponent) is_text.desk.slots
  pub closings : AreTrueClosings rounds exponent is_text.desk.slots is_text.closings

-- The same of a text that speaks of no run.
pub record OpensTruly (rounds exponent : ℕ) (lines : List (Option (List ℕ))) (text : List ℕ) : Type 0 where
  pub is_text : IsOpeningText rounds exponent lines text
  pub slots : All (IsTrueSlot rounds exponent) is_text.desk.slots

-- The headline of a desk: however it ends, some of a text was written in which each interval is true.
abbrev pub DeskHeadline : ℕ → ℕ → Option (List ℕ) → Option (List ℕ) → Type 0
DeskHeadline rounds exponent old now = (lines : List (Option (List ℕ))) × (text : List ℕ)
    × (((quits : Bool) × TellsTruly rounds exponent lines quits text) ⊎ OpensTruly rounds exponent lines text)
    × GrewByPrefix old now text
