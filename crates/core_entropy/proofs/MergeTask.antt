-- The task of the command `merge`.
use Rattle.std.proofs.Common.{◌≡◌, ◌≤◌, ◌⊎◌, ◌∙◌, inl, inr, ℕ, List, [], Option, length, map, refl, sym, subst, arith}
use Rattle.std.specs.Prelude.{All, Contains}
use Rattle.std.proofs.lemmas.List.Elements.{All-contains, All-map, All-nil, All-weaker}
use Rattle.ce_check.specs.GoodMap.{IsCertified}
use Rattle.ce_merge.specs.Best.{all_of}
use Rattle.ce_merge.specs.Flaws.{IsFirstFlawOf}
use Rattle.ce_merge.specs.Merges.{HasFirstFlaw, HasGoodParts, IsMergeOf}
use Rattle.ce_merge.specs.Parts.{IsGoodPart}
use Rattle.ce_merge.specs.declared.merged.MergeCause.{MergeCause}
use Rattle.ce_merge.proofs.MergeLaws.{merged_within}
use Rattle.ce_merge.proofs.OneAnswer.{no_first_flaw}
use Rattle.ce_merge.proofs.SomeFlaw.{some_answer}
use Rattle.ce_merge.proofs.WholeMerge.{all_parts}
use Rattle.core_entropy.specs.Calls.{CallsFor}
use Rattle.core_entropy.specs.Checked.{item_claim, map_limit}
use Rattle.core_entropy.specs.Headline.{ClaimsTruly, IsTrueClaim}
use Rattle.core_entropy.specs.Merge.{EndsByParts, IsFlawText, flaw_line, merge_task}
use Rattle.core_entropy.specs.Output.{HasEnded, Wrote}
use Rattle.core_entropy.specs.Status.{IsCalledFor, IsEndOfAnswer, IsUnheard}
use Rattle.core_entropy.specs.declared.status.Status.{Status}
use Rattle.core_entropy.specs.declared.status.Status.TheVariants.{Done, Refused}
use Rattle.ce_check.proofs.OrbitRows.{exponent_of}
use Rattle.core_entropy.proofs.CheckTask.{item_true}
use Rattle.core_entropy.proofs.Ended.{answered, wrote_weaker}
use Rattle.core_entropy.proofs.Stages.{IsLawful}

pub never_both : (bytes : List ℕ) → HasGoodParts bytes → HasFirstFlaw bytes → ⊥
never_both bytes good flaw = no_first_flaw bytes good.header good.parts good.good flaw.line flaw.cause flaw.is

parts_some : (bytes : List ℕ) → (s : Status) × EndsByParts bytes s
parts_some bytes = elim (some_answer bytes) [
  | inl good ↦ (Done, inl (good, refl))
  | inr flaw ↦ (Refused, inr (flaw, refl))
]

parts_one : (bytes : List ℕ) (s t : Status) → EndsByParts bytes s → EndsByParts bytes t → s ≡ t
parts_one bytes s t (inl (good, is)) (inl (also, k)) = is ∙ sym k
parts_one bytes s t (inl (good, is)) (inr (flaw, k)) = absurd (never_both bytes good flaw)
parts_one bytes s t (inr (flaw, is)) (inl (good, k)) = absurd (never_both bytes good flaw)
parts_one bytes s t (inr (flaw, is)) (inr (also, k)) = is ∙ sym k

parts_called : (bytes : List ℕ) (s : Status) → EndsByParts bytes s → IsCalledFor s
parts_called bytes s (inl (good, is)) = subst IsCalledFor (sym is) tt
parts_called bytes s (inr (flaw, is)) = subst IsCalledFor (sym is) tt

-- Each item that is kept makes a true claim.
kept_true : (bytes text : List ℕ) (m : IsMergeOf bytes text)
    → All (λ item. IsTrueClaim (item_claim m.header.exponent item)) m.kept
kept_true bytes text m =
    let h = m.header in
    let items = all_of m.parts in
    let certified : All (IsCertified h.exponent) items =
    all_parts (IsCertified h.exponent) (IsGoodPart h) (λ part good. good.good.certified) m.parts m.good.good in
    let known = exponent_of h m.good.header.header in
    All-weaker (Contains items) (λ item. IsTrueClaim (item_claim h.exponent item))
    (λ item has. item_true h.exponent known item (All-contains (IsCertified h.exponent) items item certified has))
    m.kept (merged_within items m.kept m.merged)

merge_true : (bytes text : List ℕ) → IsMergeOf bytes text ⊎ IsFlawText bytes text → ClaimsTruly merge_task bytes text
merge_true bytes text (inl m) =
    let claim = item_claim m.header.exponent in (
      map claim m.kept,
      inl (record { header = m.header; items = m.kept; spelled = m.written; each = refl }),
      All-map IsTrueClaim claim m.kept (kept_true bytes text m),
    )
merge_true bytes text (inr flaw) = ([], inr (flaw, refl), All-nil IsTrueClaim)

pub merge_lawful : IsLawful merge_task
merge_lawful = record { some = parts_some; one = parts_one; called = parts_called; true = merge_true }

-- How a merge ended.
module _ {O : Type 0} (taken : O → Option (List ℕ)) (faults : O → ℕ) (bytes : List ℕ) (fits : length bytes ≤ map_limit)
    (old now : O) (s : Status) where
  ended_by_parts : (wanted : Status) → ¬ (IsUnheard wanted) → EndsByParts bytes wanted → (IsText : List ℕ → Type 0)
      → ((text : List ℕ) → IsText text → merge_task.Writes bytes text)
      → IsEndOfAnswer wanted s → Wrote taken faults IsText s old now → HasEnded taken faults merge_task bytes s old now
  ended_by_parts wanted heard ends IsText is end wrote =
      let calls : CallsFor merge_task bytes wanted = inr (λ above. omega (arith, fits, above), ends) in
      answered taken faults merge_task bytes wanted old now heard calls s end
      (wrote_weaker taken faults old now IsText (merge_task.Writes bytes) is s wrote)

  pub flawed_ended : (line : ℕ) (cause : MergeCause) → IsFirstFlawOf bytes line cause → IsEndOfAnswer Refused s
      → Wrote taken faults (λ t. t ≡ flaw_line line cause) s old now → HasEnded taken faults merge_task bytes s old now
  flawed_ended line cause first =
      let flaw : HasFirstFlaw bytes = record { line = line; cause = cause; is = first } in
      ended_by_parts Refused (λ none. none) (inr (flaw, refl)) (λ t. t ≡ flaw_line line cause)
      (λ t spelled. inr (record { line = line; cause = cause; first = first; spelled = spelled }))
