-- A talk: lines that were taken, and replies that were written. Source: this project's choice.
use Rattle.std.specs.Prelude.{◌≡◌, ℕ, ◌+◌, ◌^◌, ◌≤◌, ⊤, Bool, true, false, List, [], Option, None, Some, Result}
use Rattle.std.specs.Prelude.{Ok, Err, length}
use Rattle.std.specs.Io.KnownBytes.{Consumes, IsAtEnd}
use Rattle.ce_lines.specs.Asks.{IsAsked}
use Rattle.ce_lines.specs.Bytes.{IsReader, unread, room_left}
use Rattle.ce_lines.specs.Lines.{TookOne, TookLines, TookPart}
use Rattle.ce_lines.specs.declared.asked.Asked.{Asked}
use Rattle.ce_lines.specs.declared.asked.Asked.TheVariants.{Read, Quit as AskedQuit}
use Rattle.ce_port.specs.ReadAll.{Gave}
use Rattle.ce_port.specs.Sink.{GrewBy, Rose}
use Rattle.ce_port.specs.WriteAll.{GrewByPrefix}
use Rattle.ce_desk.specs.Desk.{Desk, empty_desk}
use Rattle.ce_desk.specs.DeskText.{AreReplies}
use Rattle.ce_desk.specs.declared.talk.Fault.TheVariants.{InputTooLong, Read as ReadFault, Write as WriteFault}
use Rattle.ce_desk.specs.declared.talk.Fault.TheVariants.{NoMemory}
use Rattle.ce_desk.specs.declared.talk.Talk.{Talk}
use Rattle.ce_desk.specs.declared.talk.TalkEnd.{TalkEnd}
use Rattle.ce_desk.specs.declared.talk.TalkEnd.TheVariants.{Quit, Silence, Fault as Failed}

-- What the streams of a talk tell: the bytes ahead, those that the source has left and how many it gave, the bytes that
-- the sink took, and the counts of faults.
pub record Streams : Type 0 where
  pub ahead : Option (List ℕ)
  pub left : Option (List ℕ)
  pub given : ℕ
  pub taken : Option (List ℕ)
  pub read_faults : ℕ
  pub write_faults : ℕ

abbrev pub streams : {S O : Type 0} → (S → Option (List ℕ)) → (S → ℕ) → (O → Option (List ℕ))
    → (O → ℕ) → Talk S O → Streams
streams left read_faults taken write_faults talk = record {
  ahead = unread left talk.lines.bytes;
  left = left talk.lines.bytes.source;
  given = talk.lines.bytes.given;
  taken = taken talk.out;
  read_faults = read_faults talk.lines.bytes.source;
  write_faults = write_faults talk.out;
}

-- Each line takes a byte at least, so lines can be counted.
pub record IsTalk {S O : Type 0} (talk : Talk S O) : Type 0 where
  pub reader : IsReader talk.lines.bytes
  pub few : talk.count + room_left talk.lines.bytes ≤ 2 ^ 20 + 1

-- A line was taken, and asks this.
pub record HearsLine {S O : Type 0} (left : S → Option (List ℕ)) (old new : Talk S O)
    (asked : Option Asked) : Type 0 where
  pub line : Option (List ℕ)
  pub asks : IsAsked line asked
  pub took : TookOne (unread left old.lines.bytes) (unread left new.lines.bytes) line
  pub count : new.count ≡ old.count + 1
  pub within : new.lines.bytes.given ≤ 2 ^ 20

-- No line was taken, because the input is at its end, is too long or failed.
abbrev pub HearsEnd : {S O : Type 0} → (S → Option (List ℕ)) → (S → ℕ) → Talk S O → Talk S O → TalkEnd → Type 0
HearsEnd left faults old new Silence =
    Consumes (unread left old.lines.bytes) (unread left new.lines.bytes) [] × IsAtEnd (unread left new.lines.bytes)
    × (new.lines.bytes.given ≤ 2 ^ 20)
HearsEnd left faults old new (Failed InputTooLong) =
    TookPart (unread left old.lines.bytes) (unread left new.lines.bytes) × (new.lines.bytes.given ≡ 2 ^ 20 + 1)
HearsEnd left faults old new (Failed ReadFault) =
    TookPart (unread left old.lines.bytes) (unread left new.lines.bytes)
    × Rose (faults old.lines.bytes.source) (faults new.lines.bytes.source)
    × (unread left new.lines.bytes ≡ left new.lines.bytes.source)
HearsEnd left faults old new _ = ⊥

-- A reply was cut off: the sink failed, or memory was refused.
abbrev pub IsSpeechEnd : ℕ → ℕ → TalkEnd → Type 0
IsSpeechEnd faults faults_after (Failed WriteFault) = Rose faults faults_after
IsSpeechEnd faults faults_after (Failed NoMemory) = ⊤
IsSpeechEnd faults faults_after _ = ⊥

-- A talk came to an end of its own, by `quit` or by the end of the input.
abbrev pub IsGood : TalkEnd → Type 0
IsGood Quit = ⊤
IsGood Silence = ⊤
IsGood (Failed fault) = ⊥

abbrev pub quits_at : TalkEnd → Bool
quits_at Quit = true
quits_at _ = false

-- More bytes were given, and no count of faults fell.
pub record IsLater (old now : Streams) : Type 0 where
  pub more : ℕ
  pub gave : Gave more old.left now.left
  pub given : now.given ≡ old.given + more
  pub read : old.read_faults ≤ now.read_faults
  pub wrote : old.write_faults ≤ now.write_faults

module _ (rounds exponent : ℕ) (start : Streams) where
  -- So many lines were taken, and each was answered.
  pub record HasTalked (desk : Desk) (count : ℕ) (now : Streams) : Type 0 where
    pub lines : List (Option (List ℕ))
    pub text : List ℕ
    pub took : TookLines start.ahead now.ahead lines
    pub replies : AreReplies rounds exponent 1 empty_desk lines desk text
    pub grew : GrewBy start.taken now.taken text
    pub counted : count ≡ length lines
    pub later : IsLater start now

  -- After lines that were answered, more bytes were taken, of which this is so.
  pub record HasTalkedTo (Took : Option (List ℕ) → Option (List ℕ) → Type 0) (desk : Desk) (count : ℕ)
      (now : Streams) : Type 0 where
    pub between : Streams
    pub talked : HasTalked desk count between
    pub took : Took between.ahead now.ahead
    pub silent : now.taken ≡ between.taken
    pub later : IsLater start now

  -- The line that was taken last asks this, if anything, and was not answered.
  pub record HasHeard (asked : Option Asked) (desk : Desk) (count : ℕ) (now : Streams) : Type 0 where
    pub before : ℕ
    pub counted : count ≡ before + 1
    pub line : Option (List ℕ)
    pub asks : IsAsked line asked
    pub heard : HasTalkedTo (λ old new. TookOne old new line) desk before now
    pub within : now.given ≤ 2 ^ 20

  -- Some of the replies to the lines that were taken was written.
  pub record WasCutOff (desk : Desk) (now : Streams) : Type 0 where
    pub lines : List (Option (List ℕ))
    pub text : List ℕ
    pub took : TookLines start.ahead now.ahead lines
    pub replies : AreReplies rounds exponent 1 empty_desk lines desk text
    pub grew : GrewByPrefix start.taken now.taken text
    pub later : IsLater start now

  abbrev pub HasEnded : TalkEnd → Desk → Streams → Type 0
  HasEnded Quit desk now = (count : ℕ) × HasHeard (Some AskedQuit) desk count now
  HasEnded Silence desk now = (count : ℕ) × HasTalkedTo (λ old new. Consumes old new [] × IsAtEnd new) desk count now
      × (now.given ≤ 2 ^ 20)
  HasEnded (Failed InputTooLong) desk now = (count : ℕ) × HasTalkedTo TookPart desk count now × (now.given ≡ 2 ^ 20 + 1)
  HasEnded (Failed ReadFault) desk now = (count : ℕ) × HasTalkedTo TookPart desk count now
      × Rose start.read_faults now.read_faults × (now.ahead ≡ now.left)
  HasEnded (Failed WriteFault) desk now = WasCutOff desk now × Rose start.write_faults now.write_faults
  HasEnded (Failed NoMemory) desk now = WasCutOff desk now

  -- What comes next: a line that reads a slot is to be answered, or the talk is at its end.
  abbrev pub IsNext : Result ℕ TalkEnd → Desk → ℕ → Streams → Type 0
  IsNext (Ok slot) desk count now = HasHeard (Some (Read slot)) desk count now
  IsNext (Err end) desk count now = HasEnded end desk now

  -- After a line was taken: it was refused, or it reads a slot, or the talk is at its end.
  abbrev pub IsAfterLine : Result (Option ℕ) TalkEnd → Desk → ℕ → Streams → Type 0
  IsAfterLine (Ok None) desk count now = HasTalked desk count now
  IsAfterLine (Ok (Some slot)) desk count now = HasHeard (Some (Read slot)) desk count now
  IsAfterLine (Err end) desk count now = HasEnded end desk now
