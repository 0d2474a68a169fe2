-- The slots of an opening. Source: this project's choice.
use Rattle.std.specs.Prelude.{◌≡◌, ℕ, ◌+◌, ◌≤◌, List, [], ◌∷◌, ◌++◌, length, vec_capacity, Result, Ok}
use Rattle.ce_angle.specs.Fraction.{Fraction}
use Rattle.ce_angle.specs.declared.angle.AngleError.{AngleError}
use Rattle.ce_orbit.specs.Orbit.{HasOrbitWithin}
use Rattle.ce_rows.specs.declared.interval.Interval.{Interval}
use Rattle.ce_desk.specs.CasesInside.{AreOpenSlots}
use Rattle.ce_desk.specs.Desk.{Slot, IsOpened, most_slots}
use Rattle.ce_desk.specs.declared.opening.Slots.{Slots}
use Rattle.ce_desk.specs.declared.settings.DeskSettings.{DeskSettings}
use Rattle.ce_orbit.specs.Iterates.{most_places}

-- The memory for the most slots is there, and each slot has its case, its first seat and its worker.
pub record HasRoom (s : Slots) : Type 0 where
  pub cases : most_slots ≤ vec_capacity s.cases
  pub firsts : most_slots ≤ vec_capacity s.firsts
  pub workers : most_slots ≤ vec_capacity s.workers
  pub most : length s.cases.items ≤ most_slots
  pub firsts_count : length s.firsts.items ≡ length s.cases.items
  pub workers_count : length s.workers.items ≡ length s.cases.items

-- An angle was opened, and this was told of it.
pub record HasOpened (settings : DeskSettings) (typed : Result Fraction AngleError) (turns : ℕ) (old new : Slots)
    (told : Fraction × Interval) : Type 0 where
  pub slot : Slot
  pub typed_is : typed ≡ Ok slot.angle
  pub short : HasOrbitWithin most_places slot.angle
  pub opened : IsOpened settings.rounds settings.scale short.orbit turns slot
  pub angle : told.0 ≡ slot.angle
  pub initial : told.1 ≡ slot.run.initial
  pub count : length new.cases.items ≡ length old.cases.items + 1
  pub behind : (slots : List Slot) → AreOpenSlots old.cases.items old.firsts.items old.workers.items slots
      → AreOpenSlots new.cases.items new.firsts.items new.workers.items (slots ++ slot ∷ [])
