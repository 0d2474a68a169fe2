-- What a desk did to its source and its sink, by the way that it ended. Source: this project's choice.
use Rattle.std.specs.Prelude.{◌≡◌, ◌≢◌, ℕ, ◌+◌, ◌^◌, ◌≤◌, ◌⊎◌, Bool, true, false, List, [], ◌∷◌, All, Option, Some}
use Rattle.std.specs.Prelude.{codes}
use Rattle.std.specs.Io.KnownBytes.{Consumes, IsAtEnd}
use Rattle.ce_lines.specs.Lines.{TookLine, TookLines, TookPart}
use Rattle.ce_port.specs.ReadAll.{Gave}
use Rattle.ce_port.specs.Sink.{GrewBy, Rose}
use Rattle.ce_port.specs.WriteAll.{GrewByPrefix}
use Rattle.ce_desk.specs.Desk.{Desk, empty_desk}
use Rattle.ce_desk.specs.DeskText.{AreReplies, IsDeskText, IsOpeningText}
use Rattle.ce_desk.specs.declared.talk.Fault.{Fault}
use Rattle.ce_desk.specs.declared.talk.Fault.TheVariants.{InputTooLong, Read, Write, NoMemory}
use Rattle.ce_desk.specs.declared.serving.DeskEnd.{DeskEnd}
use Rattle.ce_desk.specs.declared.serving.DeskStop.{DeskStop}
use Rattle.ce_desk.specs.declared.serving.DeskStop.TheVariants.{Done as StopDone}
use Rattle.ce_desk.specs.declared.serving.DeskStop.TheVariants.{InputTooLong as StopTooLong, ReadFault as StopRead}
use Rattle.ce_desk.specs.declared.serving.DeskStop.TheVariants.{WriteFault as StopWrite, NoMemory as StopNoMemory}

-- After lines a source was at its end, or the next line was `quit`; what was read ahead of that is lost.
abbrev pub EndsAfter : Option (List ℕ) → Option (List ℕ) → Bool → Type 0
EndsAfter between new false = Consumes between new [] × IsAtEnd new
EndsAfter between new true = (after : Option (List ℕ)) × (ahead : List ℕ) × TookLine between after (codes "quit")
    × Consumes after new ahead

-- All lines were taken up to the end of the input or to `quit`.
pub record TookAll (old new : Option (List ℕ)) (lines : List (Option (List ℕ))) (quits : Bool) : Type 0 where
  pub between : Option (List ℕ)
  pub took : TookLines old between lines
  pub ends : EndsAfter between new quits
  pub count : ℕ
  pub within : count ≤ 2 ^ 20
  pub gave : Gave count old new

-- These lines were taken, and then perhaps more bytes.
pub record TookSome (old new : Option (List ℕ)) (lines : List (Option (List ℕ))) : Type 0 where
  pub between : Option (List ℕ)
  pub took : TookLines old between lines
  pub ahead : List ℕ
  pub more : Consumes between new ahead

-- A source gave one byte above 2^20, and no line among the bytes before it is `quit`.
pub record IsTooLong (old new : Option (List ℕ)) : Type 0 where
  pub lines : List (Option (List ℕ))
  pub no_quit : All (λ line. line ≢ Some (codes "quit")) lines
  pub between : Option (List ℕ)
  pub took : TookLines old between lines
  pub after : Option (List ℕ)
  pub rest : TookPart between after
  pub last : ℕ
  pub one_more : Consumes after new (last ∷ [])
  pub gave : Gave (2 ^ 20 + 1) old new

abbrev pub stop_of : Fault → DeskStop
stop_of InputTooLong = StopTooLong
stop_of Read = StopRead
stop_of Write = StopWrite
stop_of NoMemory = StopNoMemory

-- All was done: the lines up to the end were taken, and the whole text for them was written.
abbrev pub ServedAll : ℕ → ℕ → Option (List ℕ) → Option (List ℕ) → Option (List ℕ) → Option (List ℕ) → Type 0
ServedAll rounds exponent left left_after taken taken_after =
    (lines : List (Option (List ℕ))) × (quits : Bool) × (text : List ℕ) × TookAll left left_after lines quits
    × IsDeskText rounds exponent lines quits text × GrewBy taken taken_after text

-- Not all was done: a prefix of a text for the lines that were taken was written.
abbrev pub ServedSome : ℕ → ℕ → Option (List ℕ) → Option (List ℕ) → Option (List ℕ) → Option (List ℕ) → Type 0
ServedSome rounds exponent left left_after taken taken_after =
    (lines : List (Option (List ℕ))) × (text : List ℕ) × TookSome left left_after lines
    × (((quits : Bool) × IsDeskText rounds exponent lines quits text) ⊎ IsOpeningText rounds exponent lines text)
    × GrewByPrefix taken taken_after text

-- Reads came to no good end: a source gave lines, then bytes of a line whose end did not come, and then so many bytes
-- that nobody took. Each of the lines was answered whole, and nothing else was written, no closing line either.
pub record AnsweredEach (rounds exponent beyond : ℕ)
    (left left_after taken taken_after : Option (List ℕ)) : Type 0 where
  pub lines : List (Option (List ℕ))
  pub between : Option (List ℕ)
  pub took : TookLines left between lines
  pub after : Option (List ℕ)
  pub rest : TookPart between after
  pub more : Gave beyond after left_after
  pub desk : Desk
  pub text : List ℕ
  pub replies : AreReplies rounds exponent 1 empty_desk lines desk text
  pub grew : GrewBy taken taken_after text

module _ {S O : Type 0} (left : S → Option (List ℕ)) (read_faults : S → ℕ) (taken : O → Option (List ℕ))
    (write_faults : O → ℕ) where
  -- What a desk did to its source and its sink, by the way that it ended; the faults of both never go down.
  pub record HasServed (rounds exponent : ℕ) (source : S) (out : O) (end : DeskEnd S O) : Type 0 where
    pub done : end.stop ≡ StopDone
        → ServedAll rounds exponent (left source) (left end.source) (taken out) (taken end.out)
    pub part : end.stop ≢ StopDone
        → ServedSome rounds exponent (left source) (left end.source) (taken out) (taken end.out)
    pub too_long : end.stop ≡ StopTooLong → IsTooLong (left source) (left end.source)
    pub answered : end.stop ≡ StopTooLong
        → AnsweredEach rounds exponent 1 (left source) (left end.source) (taken out) (taken end.out)
    pub answered_all : end.stop ≡ StopRead
        → AnsweredEach rounds exponent 0 (left source) (left end.source) (taken out) (taken end.out)
    pub read_fault : end.stop ≡ StopRead → Rose (read_faults source) (read_faults end.source)
    pub write_fault : end.stop ≡ StopWrite → Rose (write_faults out) (write_faults end.out)
    pub read : read_faults source ≤ read_faults end.source
    pub wrote : write_faults out ≤ write_faults end.out
