-- The statuses, their codes and their error lines. Source: this project's choice.
use Rattle.std.specs.Prelude.{◌≡◌, ◌⊎◌, ◌++◌, ℕ, List, [], codes, Result, Ok, Err, ⊤}
use Rattle.std.specs.Fmt.{decimal}
use Rattle.ce_angle.specs.declared.angle.AngleError.TheVariants.{NotAFraction, ZeroDenominator, NotBelowOne}
use Rattle.ce_angle.specs.declared.angle.AngleError.TheVariants.{DenominatorTooLarge}
use Rattle.ce_command.specs.declared.words.WordsError.{WordsError}
use Rattle.ce_command.specs.declared.words.WordsError.TheVariants as words
use Rattle.ce_core.specs.declared.script.ScriptError.{ScriptError}
use Rattle.ce_core.specs.declared.script.ScriptError.TheVariants as script
use Rattle.ce_port.specs.Sink.{Rose}
use Rattle.ce_angle.specs.Spelled.{ended}
use Rattle.core_entropy.specs.declared.status.Status.{Status}
use Rattle.core_entropy.specs.declared.status.Status.TheVariants.{Done, Refused, Usage, Angle, OrbitTooLong, BadEvent}
use Rattle.core_entropy.specs.declared.status.Status.TheVariants.{InputTooLong, ReadFault, WriteFault, NoMemory}

-- the exit status
abbrev pub code_of : Status → ℕ
code_of Done = 0
code_of Refused = 1
code_of Usage = 2
code_of (Angle flaw) = 3
code_of OrbitTooLong = 3
code_of (BadEvent line) = 3
code_of InputTooLong = 3
code_of ReadFault = 4
code_of WriteFault = 5
code_of NoMemory = 6

abbrev pub error_line : Status → List ℕ
error_line Done = []
error_line Refused = []
error_line Usage = ended (codes "error: usage")
error_line (Angle NotAFraction) = ended (codes "error: NotAFraction")
error_line (Angle ZeroDenominator) = ended (codes "error: ZeroDenominator")
error_line (Angle NotBelowOne) = ended (codes "error: NotBelowOne")
error_line (Angle DenominatorTooLarge) = ended (codes "error: DenominatorTooLarge")
error_line OrbitTooLong = ended (codes "error: OrbitTooLong")
error_line (BadEvent line) = ended (codes "error: BadEvent line " ++ decimal line)
error_line InputTooLong = ended (codes "error: InputTooLong")
error_line ReadFault = ended (codes "error: read fault")
error_line WriteFault = ended (codes "error: write fault")
error_line NoMemory = ended (codes "error: no memory")

-- the status of words that are not read, and of a script that is not
abbrev pub of_words : WordsError → Status
of_words words.Usage = Usage
of_words words.NoMemory = NoMemory

abbrev pub of_script : ScriptError → Status
of_script (script.BadEvent line) = BadEvent line
of_script script.NoMemory = NoMemory

-- how a call ended
abbrev pub ended_with : Result Unit Status → Status
ended_with (Ok done) = Done
ended_with (Err status) = status

-- A status that words and an input may call for: no fault, and not out of memory.
abbrev pub IsCalledFor : Status → Type 0
IsCalledFor ReadFault = ⊥
IsCalledFor WriteFault = ⊥
IsCalledFor NoMemory = ⊥
IsCalledFor _ = ⊤

-- The words are no command, or the input was not read whole.
abbrev pub IsUnheard : Status → Type 0
IsUnheard Usage = ⊤
IsUnheard InputTooLong = ⊤
IsUnheard ReadFault = ⊤
IsUnheard _ = ⊥

-- Writing may end with this, where it is not done.
abbrev pub IsOfWriting : Status → Type 0
IsOfWriting WriteFault = ⊤
IsOfWriting NoMemory = ⊤
IsOfWriting _ = ⊥

-- A call that writes an answer ends with the status of the answer, or writing does not get that far.
abbrev pub IsEndOfAnswer : Status → Status → Type 0
IsEndOfAnswer wanted status = (status ≡ wanted) ⊎ IsOfWriting status

-- Writing stopped: a write failed and was counted, or memory was refused.
abbrev pub IsStopped : ℕ → ℕ → Status → Type 0
IsStopped before now status = (status ≡ WriteFault × Rose before now) ⊎ (status ≡ NoMemory)

-- A status is this one, or out of memory.
abbrev pub IsUnlessNoMemory : Status → Status → Type 0
IsUnlessNoMemory s status = (s ≡ status) ⊎ (s ≡ NoMemory)

-- Nothing was written to the output: what was asked for has no answer, or the input failed.
abbrev pub IsRefusal : Status → Type 0
IsRefusal Done = ⊥
IsRefusal Refused = ⊥
IsRefusal WriteFault = ⊥
IsRefusal NoMemory = ⊥
IsRefusal _ = ⊤
