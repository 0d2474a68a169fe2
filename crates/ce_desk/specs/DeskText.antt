-- The text of a desk. Source: this project's choice.
use Rattle.std.specs.Prelude.{◌≡◌, ℕ, ◌+◌, ◌<◌, ◌⊎◌, Bool, true, false, if◌then◌else◌, List, [], ◌∷◌, ◌++◌, length}
use Rattle.std.specs.Prelude.{codes}
use Rattle.std.specs.Prelude.{Option, Some, Ok, slice_index_or, slice_set}
use Rattle.std.specs.Fmt.{decimal}
use Rattle.ce_angle.specs.Fraction.{Fraction}
use Rattle.ce_angle.specs.Spelled.{ended, fraction_text}
use Rattle.ce_angle.specs.Typed.{angle_of_text}
use Rattle.ce_angle.specs.declared.angle.AngleError.{AngleError}
use Rattle.ce_angle.specs.declared.angle.AngleError.TheVariants.{NotAFraction, ZeroDenominator, NotBelowOne}
use Rattle.ce_angle.specs.declared.angle.AngleError.TheVariants.{DenominatorTooLarge}
use Rattle.ce_crew.specs.WorkerLogs.{IsTurns, IsHaltedAfter}
use Rattle.ce_lines.specs.Asks.{AsksRead}
use Rattle.ce_orbit.specs.Orbit.{HasOrbitWithin}
use Rattle.ce_rows.specs.IntervalText.{interval_text}
use Rattle.ce_rows.specs.Rows.{EnclosesRows}
use Rattle.ce_rows.specs.declared.interval.Interval.{Interval}
use Rattle.ce_solve.specs.ChaoticRun.{IsRun, HasKnownEnds}
use Rattle.ce_words.specs.Logs.{Each}
use Rattle.ce_words.specs.Steps.{LiesInside}
use Rattle.ce_words.specs.Views.{rows_of}
use Rattle.ce_words.specs.declared.view.Place.{Place}
use Rattle.ce_words.specs.declared.view.Run.{Run}
use Rattle.ce_desk.specs.Desk.{Slot, Desk, empty_desk, most_slots, OpensInTime, IsOpened, IsFirstCause}
use Rattle.ce_desk.specs.declared.cause.Cause.{Cause}
use Rattle.ce_desk.specs.declared.cause.Cause.TheVariants.{Form, Late, Angle, OrbitTooLong, Full, NoSlot, NoMemory}
use Rattle.ce_desk.specs.declared.closing.Closing.{Closing}
use Rattle.ce_orbit.specs.Iterates.{most_places}

abbrev pub opened_text : ℕ → Fraction → Interval → List ℕ
opened_text slot angle initial =
    ended (codes "opened " ++ decimal slot ++ codes " angle " ++ fraction_text angle ++ codes " "
    ++ interval_text initial)

abbrev pub read_text : ℕ → Interval → List ℕ
read_text slot interval = ended (codes "read " ++ decimal slot ++ codes " " ++ interval_text interval)

abbrev pub angle_error_name : AngleError → List ℕ
angle_error_name NotAFraction = codes "NotAFraction"
angle_error_name ZeroDenominator = codes "ZeroDenominator"
angle_error_name NotBelowOne = codes "NotBelowOne"
angle_error_name DenominatorTooLarge = codes "DenominatorTooLarge"

abbrev pub cause_name : Cause → List ℕ
cause_name Form = codes "Form"
cause_name Late = codes "Late"
cause_name (Angle error) = angle_error_name error
cause_name OrbitTooLong = codes "OrbitTooLong"
cause_name Full = codes "Full"
cause_name NoSlot = codes "NoSlot"
cause_name NoMemory = codes "NoMemory"

abbrev pub refused_text : ℕ → Cause → List ℕ
refused_text k cause = ended (codes "refused line " ++ decimal k ++ codes " " ++ cause_name cause)

abbrev pub closed_text : ℕ → Closing → List ℕ
closed_text slot closing =
    ended (codes "closed " ++ decimal slot ++ codes " turns " ++ decimal closing.turns ++ codes " "
    ++ interval_text closing.interval)

-- A line opens an angle, and the reply tells the initial enclosure.
pub record Opens (rounds exponent : ℕ) (desk : Desk) (line : Option (List ℕ)) (after : Desk)
    (text : List ℕ) : Type 0 where
  pub slot : Slot
  pub word : List ℕ
  pub turns : ℕ
  pub in_time : OpensInTime desk line word turns
  pub typed : angle_of_text word ≡ Ok slot.angle
  pub short : HasOrbitWithin most_places slot.angle
  pub room : length desk.slots < most_slots
  pub opened : IsOpened rounds exponent short.orbit turns slot
  pub after_is : after ≡ record desk { slots = desk.slots ++ slot ∷ [] }
  pub spelled : text ≡ opened_text (length desk.slots) slot.angle slot.run.initial

-- A line reads a slot: the interval encloses, and lies inside all that was told of the slot. Its ends are
-- known only once the slot is closed.
pub record Reads (desk : Desk) (line : Option (List ℕ)) (after : Desk) (text : List ℕ) : Type 0 where
  pub asked : List ℕ
  pub line_is : line ≡ Some asked
  pub number : ℕ
  pub asks : AsksRead asked number
  pub there : number < length desk.slots
  pub slot : Slot
  pub slot_is : (other : Slot) → slice_index_or desk.slots number other ≡ slot
  pub interval : Interval
  pub encloses : EnclosesRows (rows_of slot.run) interval.low interval.high
  pub inside_initial : LiesInside slot.run.initial.low slot.run.initial.high interval.low interval.high
  pub inside : Each (λ (told : Interval). LiesInside told.low told.high interval.low interval.high) slot.told
  pub after_is : after ≡ record {
    slots = slice_set desk.slots number (record slot { told = slot.told ++ interval ∷ [] });
    late = true;
  }
  pub spelled : text ≡ read_text number interval

-- Line k is refused by the first cause that is so, and changes nothing.
pub record Refuses (k : ℕ) (desk : Desk) (line : Option (List ℕ)) (after : Desk) (text : List ℕ) : Type 0 where
  pub cause : Cause
  pub first : IsFirstCause desk line cause
  pub after_is : after ≡ desk
  pub spelled : text ≡ refused_text k cause

abbrev pub IsReply : ℕ → ℕ → ℕ → Desk → Option (List ℕ) → Desk → List ℕ → Type 0
IsReply rounds exponent k desk line after text =
    Opens rounds exponent desk line after text ⊎ (Reads desk line after text ⊎ Refuses k desk line after text)

-- The replies to lines, of which the first is line k: the desk afterwards, and their text.
abbrev pub AreReplies : ℕ → ℕ → ℕ → Desk → List (Option (List ℕ)) → Desk → List ℕ → Type 0
AreReplies rounds exponent k desk [] after text = (after ≡ desk) × (text ≡ [])
AreReplies rounds exponent k desk (line ∷ lines) after text = (next : Desk) × (reply rest : List ℕ)
    × IsReply rounds exponent k desk line next reply × AreReplies rounds exponent (k + 1) next lines after rest
    × (text ≡ reply ++ rest)

-- How many turns a log has.
abbrev pub HasTurns : Run → Place → ℕ → Type 0
HasTurns run p turns = ((made : ℕ) × IsTurns run p.part turns p.log made) ⊎ IsHaltedAfter run p.part turns p.log

-- What a slot came to: its run with one worker and the granted turns; each interval that was read contains the closing
-- one, and its ends are initial or were certified in this run. That the closing one encloses follows: the law
-- `desks_tell_truly`.
pub record Closes (slot : Slot) (closing : Closing) : Type 0 where
  pub place : Place
  pub is_run : IsRun slot.run slot.turns (place ∷ []) closing.interval.low closing.interval.high
  pub made : HasTurns slot.run place closing.turns
  pub contain : Each
      (λ (told : Interval). LiesInside told.low told.high closing.interval.low closing.interval.high) slot.told
  pub ends : Each (λ (told : Interval). HasKnownEnds slot.run (place ∷ []) told.low told.high) slot.told

-- Slots and what they came to.
pub record AllClose (slots : List Slot) (closings : List Closing) : Type 0 where
  pub count : length closings ≡ length slots
  pub each : (i : ℕ) (x : Slot) (c : Closing) → i < length slots
      → Closes (slice_index_or slots i x) (slice_index_or closings i c)

-- the closing lines of the slots from i on
abbrev pub closing_lines : ℕ → List Closing → List ℕ
closing_lines i [] = []
closing_lines i (closing ∷ closings) = closed_text i closing ++ closing_lines (i + 1) closings

-- what follows the replies
abbrev pub closing_text : List Closing → Bool → List ℕ
closing_text closings quits = closing_lines 0 closings ++ (if quits then ended (codes "bye") else [])

-- The whole text for the lines before `quit`, or for all lines of the input.
pub record IsDeskText (rounds exponent : ℕ) (lines : List (Option (List ℕ))) (quits : Bool)
    (text : List ℕ) : Type 0 where
  pub desk : Desk
  pub replies : List ℕ
  pub are_replies : AreReplies rounds exponent 1 empty_desk lines desk replies
  pub closings : List Closing
  pub close : AllClose desk.slots closings
  pub spelled : text ≡ replies ++ closing_text closings quits

-- The replies to lines of which none read a slot: they speak of no run.
pub record IsOpeningText (rounds exponent : ℕ) (lines : List (Option (List ℕ))) (text : List ℕ) : Type 0 where
  pub desk : Desk
  pub early : desk.late ≡ false
  pub are_replies : AreReplies rounds exponent 1 empty_desk lines desk text
