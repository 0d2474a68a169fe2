-- A desk between two lines, and why a line is refused. Source: this project's choice.
use Rattle.std.specs.Prelude.{◌≡◌, ℕ, ◌≤◌, ◌<◌, Bool, true, false, List, [], length, Option, None, Some, Result}
use Rattle.std.specs.Prelude.{Ok, Err, ⊤}
use Rattle.ce_angle.specs.Fraction.{Fraction}
use Rattle.ce_angle.specs.Typed.{angle_of_text}
use Rattle.ce_angle.specs.declared.angle.AngleError.{AngleError}
use Rattle.ce_lines.specs.Asks.{AsksOpen, AsksRead, IsAsked}
use Rattle.ce_lines.specs.declared.asked.Asked.{Asked}
use Rattle.ce_lines.specs.declared.asked.Asked.TheVariants.{Open}
use Rattle.ce_orbit.specs.Orbit.{ForwardOrbit, HasOrbitWithin, HasOrbitAbove}
use Rattle.ce_rows.specs.declared.interval.Interval.{Interval}
use Rattle.ce_solve.specs.SolvedRows.{IsRunOf}
use Rattle.ce_thurston.specs.Indices.{rows_at}
use Rattle.ce_words.specs.declared.view.Run.{Run}
use Rattle.ce_desk.specs.declared.cause.Cause.{Cause}
use Rattle.ce_desk.specs.declared.cause.Cause.TheVariants.{Form, Late, Angle, OrbitTooLong, Full, NoSlot, NoMemory}
use Rattle.ce_orbit.specs.Iterates.{most_places}

-- An opened angle: the turns that its worker was granted, its run, and the intervals that were read, in order.
pub record Slot : Type 0 where
  pub angle : Fraction
  pub turns : ℕ
  pub run : Run
  pub told : List Interval

-- The opened angles, and whether a line that opens none was answered.
pub record Desk : Type 0 where
  pub slots : List Slot
  pub late : Bool

-- a desk in its opening
abbrev pub early_desk : List Slot → Desk
early_desk slots = record { slots = slots; late = false }

abbrev pub empty_desk : Desk
empty_desk = early_desk []

abbrev pub most_slots : ℕ
most_slots = 16

-- A line is to open an angle, while this may be done.
pub record OpensInTime (desk : Desk) (line : Option (List ℕ)) (word : List ℕ) (turns : ℕ) : Type 0 where
  pub text : List ℕ
  pub line_is : line ≡ Some text
  pub asks : AsksOpen text word turns
  pub early : desk.late ≡ false

-- A line is to open an angle when this may no longer be done.
pub record OpensLate (desk : Desk) (line : Option (List ℕ)) : Type 0 where
  pub text : List ℕ
  pub line_is : line ≡ Some text
  pub word : List ℕ
  pub turns : ℕ
  pub asks : AsksOpen text word turns
  pub late : desk.late ≡ true

-- A line reads a slot that was not opened.
pub record ReadsNone (desk : Desk) (line : Option (List ℕ)) : Type 0 where
  pub text : List ℕ
  pub line_is : line ≡ Some text
  pub slot : ℕ
  pub asks : AsksRead text slot
  pub none : length desk.slots ≤ slot

-- Why an angle is not opened beside so many others; it is as its word types it. Out of memory is free, after all
-- others.
abbrev pub IsOpenCause : ℕ → Result Fraction AngleError → Cause → Type 0
IsOpenCause count typed (Angle error) = typed ≡ Err error
IsOpenCause count typed OrbitTooLong = (x : Fraction) × (typed ≡ Ok x) × HasOrbitAbove most_places x
IsOpenCause count typed Full = (x : Fraction) × (typed ≡ Ok x) × HasOrbitWithin most_places x × (most_slots ≤ count)
IsOpenCause count typed NoMemory = (x : Fraction) × (typed ≡ Ok x) × HasOrbitWithin most_places x × (count < most_slots)
IsOpenCause count typed _ = ⊥

-- Where a line is to open an angle, this may no longer be done.
abbrev pub IsLateIfOpen : Option Asked → Desk → Type 0
IsLateIfOpen (Some (Open angle turns)) desk = desk.late ≡ true
IsLateIfOpen _ desk = ⊤

-- A cause is the first one that is so.
abbrev pub IsFirstCause : Desk → Option (List ℕ) → Cause → Type 0
IsFirstCause desk line Form = IsAsked line None
IsFirstCause desk line Late = OpensLate desk line
IsFirstCause desk line NoSlot = ReadsNone desk line
IsFirstCause desk line cause = (word : List ℕ) × (turns : ℕ) × OpensInTime desk line word turns
    × IsOpenCause (length desk.slots) (angle_of_text word) cause

-- A slot that was opened for an orbit: a run of its rows, of which nothing was read.
pub record IsOpened (rounds exponent : ℕ) (orbit : ForwardOrbit) (turns : ℕ) (slot : Slot) : Type 0 where
  pub angle : slot.angle ≡ orbit.angle
  pub granted : slot.turns ≡ turns
  pub run_of : IsRunOf (rows_at orbit exponent) rounds slot.run
  pub told : slot.told ≡ []
