-- Items of lists at one place and at others.
use Rattle.std.proofs.Common.{◌≡◌, ◌≢◌, ◌<◌, ◌≤◌, ◌+◌, ℕ, zero, suc, ◌⊎◌, inl, inr, List, length, slice_index_or}
use Rattle.std.proofs.Common.{refl, sym, ap, subst, arith}
use Rattle.ce_crew.specs.declared.worker.Worker.{Worker}
use Rattle.ce_desk.specs.ActorsInside.{CanRunCrew}
use Rattle.ce_desk.specs.CasesInside.{CanRunSlot, HasRunSlot}
use Rattle.ce_desk.specs.declared.case.Case.{Case}
use Rattle.std.specs.Prelude.{Option}

-- Workers of the slots below one ran, and the others are as they were.
pub record RanBelow (cases : List Case) (workers after : List (Option Worker)) (slot : ℕ) : Type 0 where
  pub count : length after ≡ length workers
  pub ran : (i : ℕ) (c : Case) (w v : Option Worker) → i < slot
      → HasRunSlot (slice_index_or cases i c) (slice_index_or workers i w) (slice_index_or after i v)
  pub rest : (i : ℕ) (v : Option Worker) → slot ≤ i → slice_index_or after i v ≡ slice_index_or workers i v

pub at_or_below : (i n : ℕ) → i < n + 1 → (i ≡ n) ⊎ (i < n)
at_or_below zero zero below = inl refl
at_or_below zero (suc n) below = inr (omega arith)
at_or_below (suc i) zero below = absurd (omega (arith, below))
at_or_below (suc i) (suc n) below = elim (at_or_below i n (omega (arith, below))) [
  | inl same ↦ inl (ap suc same)
  | inr less ↦ inr (omega (arith, less))
]

pub eq_or_not : (i j : ℕ) → (i ≡ j) ⊎ (i ≢ j)
eq_or_not zero zero = inl refl
eq_or_not zero (suc j) = inr (λ same. omega (arith, same))
eq_or_not (suc i) zero = inr (λ same. omega (arith, same))
eq_or_not (suc i) (suc j) = elim (eq_or_not i j) [
  | inl same ↦ inl (ap suc same)
  | inr other ↦ inr (λ same. other (omega (arith, same)))
]

module _ (cases : List Case) (workers after : List (Option Worker)) (slot : ℕ)
    (so_far : RanBelow cases workers after slot) where
  pub can_run_slot : (c : Case) (w : Option Worker) → CanRunCrew cases workers → slot < length cases
      → CanRunSlot (slice_index_or cases slot c) (slice_index_or after slot w)
  can_run_slot c w can within =
      subst (CanRunSlot (slice_index_or cases slot c)) (sym (so_far.rest slot w (omega arith)))
      (can.each slot c w within)
