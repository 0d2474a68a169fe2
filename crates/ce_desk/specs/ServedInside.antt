-- A desk on its way, over the streams that it began with.
use Rattle.std.specs.Prelude.{◌≡◌, ℕ, ◌⊎◌, List, Option, Result, Err}
use Rattle.ce_desk.specs.Desk.{Desk, empty_desk}
use Rattle.ce_desk.specs.TalksInside.{Streams, streams, IsTalk, HasTalked, HasEnded, IsNext}
use Rattle.ce_desk.specs.declared.session.Session.{Session}
use Rattle.ce_desk.specs.declared.talk.Fault.{Fault}
use Rattle.ce_desk.specs.declared.talk.Fault.TheVariants.{NoMemory}
use Rattle.ce_desk.specs.declared.talk.Talk.{Talk}
use Rattle.ce_desk.specs.declared.talk.TalkEnd.{TalkEnd}
use Rattle.ce_desk.specs.declared.talk.TalkEnd.TheVariants.{Fault as Failed}

-- Why a desk stops before its actors begin: a fault of the opening, or want of memory after any lines.
abbrev pub StopsBy : Fault → Result ℕ TalkEnd → Type 0
StopsBy fault next = (next ≡ Err (Failed fault)) ⊎ (fault ≡ NoMemory)

module _ {S O : Type 0} (left : S → Option (List ℕ)) (read_faults : S → ℕ) (taken : O → Option (List ℕ))
    (write_faults : O → ℕ) where
  -- what streams tell before a byte was read or written
  abbrev pub at_start : S → O → Streams
  at_start source out = record {
    ahead = left source;
    left = left source;
    given = 0;
    taken = taken out;
    read_faults = read_faults source;
    write_faults = write_faults out;
  }

  -- A talk over the streams, in which no angle was opened.
  abbrev pub HasBegun : ℕ → ℕ → S → O → Talk S O → Type 0
  HasBegun rounds exponent source out talk =
      HasTalked rounds exponent (at_start source out) empty_desk talk.count
      (streams left read_faults taken write_faults talk)

  -- A talk over the streams, after which this comes next.
  abbrev pub IsUnderWay : ℕ → ℕ → S → O → Talk S O → Result ℕ TalkEnd → Desk → Type 0
  IsUnderWay rounds exponent source out talk next desk =
      IsNext rounds exponent (at_start source out) next desk talk.count
      (streams left read_faults taken write_faults talk)

  -- A session goes on with a talk over the streams.
  abbrev pub IsGoingOn : ℕ → ℕ → S → O → Session S O → Desk → Type 0
  IsGoingOn rounds exponent source out session desk =
      IsUnderWay rounds exponent source out session.talk session.next desk

  -- A talk over the streams has ended.
  abbrev pub HasTalkEnded : ℕ → ℕ → S → O → Talk S O → TalkEnd → Desk → Type 0
  HasTalkEnded rounds exponent source out talk end desk =
      HasEnded rounds exponent (at_start source out) end desk (streams left read_faults taken write_faults talk)
      × IsTalk talk
