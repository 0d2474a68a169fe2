-- Tasks: which status is called for, by stages.
use Rattle.std.proofs.Common.{◌≡◌, ◌⊎◌, ◌∙◌, inl, inr, ℕ, List, Option, None, Some, length, refl, sym, subst}
use Rattle.std.proofs.Common.{arith}
use Rattle.std.proofs.lemmas.Bool.{cases_lt}
use Rattle.core_entropy.specs.Calls.{CallsFor, IsAbove, IsInput, IsToldInput}
use Rattle.core_entropy.specs.Headline.{ClaimsTruly}
use Rattle.core_entropy.specs.Status.{IsCalledFor}
use Rattle.core_entropy.specs.Task.{Task, Unless, refusal}
use Rattle.core_entropy.specs.declared.status.Status.{Status}
use Rattle.core_entropy.specs.declared.status.Status.TheVariants.{InputTooLong}

-- What is true of every task of the table.
pub record IsLawful (task : Task) : Type 0 where
  pub some : (input : List ℕ) → (s : Status) × task.Ends input s
  pub one : (input : List ℕ) (s t : Status) → task.Ends input s → task.Ends input t → s ≡ t
  pub called : (input : List ℕ) (s : Status) → task.Ends input s → IsCalledFor s
  pub true : (input text : List ℕ) → task.Writes input text → ClaimsTruly task input text

-- one stage before the next
module _ (Cause : Type 0) (status : Status) (Next : Status → Type 0) where
  pub unless_one : ((s t : Status) → Next s → Next t → s ≡ t) → (s t : Status) → Unless Cause status Next s
      → Unless Cause status Next t → s ≡ t
  unless_one next s t (inl h) (inl k) = h.1 ∙ sym k.1
  unless_one next s t (inl h) (inr k) = absurd (k.0 h.0)
  unless_one next s t (inr h) (inl k) = absurd (h.0 k.0)
  unless_one next s t (inr h) (inr k) = next s t h.1 k.1

  pub unless_some : Cause ⊎ (¬ Cause) → ((¬ Cause) → (s : Status) × Next s) → (s : Status) × Unless Cause status Next s
  unless_some (inl cause) next = (status, inl (cause, refl))
  unless_some (inr none) next = let rest = next none in (rest.0, inr (none, rest.1))

  pub unless_called : IsCalledFor status → ((s : Status) → Next s → IsCalledFor s) → (s : Status)
      → Unless Cause status Next s → IsCalledFor s
  unless_called called next s (inl h) = subst IsCalledFor (sym h.1) called
  unless_called called next s (inr h) = next s h.1

above_or : (limit : Option ℕ) (input : List ℕ) → IsAbove limit input ⊎ (¬ (IsAbove limit input))
above_or None input = inr (λ none. none)
above_or (Some limit) input = elim (cases_lt limit (length input)) [
  | inl long ↦ inl long
  | inr short ↦ inr (λ long. omega (arith, long, short))
]

module _ (task : Task) (lawful : IsLawful task) where
  pub calls_some : (input : List ℕ) → (s : Status) × CallsFor task input s
  calls_some input = unless_some (IsAbove task.limit input) InputTooLong (task.Ends input) (above_or task.limit input)
      (λ fits. lawful.some input)

  pub calls_one : (input : List ℕ) (s t : Status) → CallsFor task input s → CallsFor task input t → s ≡ t
  calls_one input = unless_one (IsAbove task.limit input) InputTooLong (task.Ends input) (lawful.one input)

pub refusal_lawful : (status : Status) → IsCalledFor status → IsLawful (refusal status)
refusal_lawful status called = record {
  some = λ input. (status, refl);
  one = λ input s t h k. h ∙ sym k;
  called = λ input s h. subst IsCalledFor (sym h) called;
  true = λ input text none. absurd none;
}

-- An input that is told is the one that is read.
pub told_is_read : (limit : Option ℕ) (left : Option (List ℕ)) (input told : List ℕ) → IsInput limit left input
    → IsToldInput limit left told → input ≡ told
told_is_read None left input told read is = read ∙ sym is
told_is_read (Some limit) left input told read is = subst (λ l. IsInput (Some limit) l input) is read
