-- The tasks that read a map and answer its verdict.
use Rattle.std.proofs.Common.{◌≡◌, ◌≤◌, ◌∙◌, inr, ℕ, List, [], Option, length, refl, sym, ap}
use Rattle.std.proofs.Common.{subst, arith, map}
use Rattle.std.specs.Prelude.{All}
use Rattle.std.proofs.lemmas.List.Elements.{All-map, All-nil, All-weaker}
use Rattle.ce_check.specs.GoodMap.{IsCertified}
use Rattle.ce_check.specs.Verdicts.{IsVerdict}
use Rattle.ce_check.specs.declared.verdict.Verdict.{Verdict}
use Rattle.ce_check.specs.declared.verdict.Verdict.TheVariants.{Accepted, Refused}
use Rattle.ce_check.proofs.OneVerdict.{one_verdict}
use Rattle.ce_check.proofs.OrbitRows.{certified_encloses, exponent_of}
use Rattle.ce_check.proofs.SomeVerdict.{some_verdict}
use Rattle.ce_map.specs.Grammar.{IsMapOf, Item}
use Rattle.ce_rows.specs.Scale.{IsExponent}
use Rattle.core_entropy.specs.Calls.{CallsFor}
use Rattle.core_entropy.specs.Checked.{EndsByVerdict, VerdictClaims, item_claim, map_limit, status_of, verdict_task}
use Rattle.core_entropy.specs.Headline.{ClaimsTruly, IsTrueClaim}
use Rattle.core_entropy.specs.Output.{HasEnded, Wrote}
use Rattle.core_entropy.specs.Status.{IsCalledFor, IsEndOfAnswer, IsUnheard}
use Rattle.core_entropy.specs.Task.{Claim}
use Rattle.core_entropy.specs.declared.status.Status.{Status}
use Rattle.core_entropy.proofs.DegreeClaims.{doubling_true}
use Rattle.core_entropy.proofs.Ended.{answered, wrote_weaker}
use Rattle.core_entropy.proofs.Stages.{IsLawful}

pub item_true : (exponent : ℕ) → IsExponent exponent → (item : Item) → IsCertified exponent item
    → IsTrueClaim (item_claim exponent item)
item_true exponent known item is =
    let encloses = certified_encloses exponent item is.orbit known is is.short.is_orbit is.short.of_angle in
    doubling_true is.orbit (item_claim exponent item) is.short.is_orbit refl is.short.of_angle encloses tt

-- The intervals that a verdict claims are true.
verdict_claims : (bytes : List ℕ) (v : Verdict) → IsVerdict bytes v
    → (claims : List Claim) × VerdictClaims bytes v claims × All IsTrueClaim claims
verdict_claims bytes (Refused line cause) is = ([], refl, All-nil IsTrueClaim)
verdict_claims bytes (Accepted count) is =
    let h = is.header in
    let spelled : IsMapOf bytes h is.items count = subst (IsMapOf bytes h is.items) (sym is.counted) is.good.spelled in
    let known = exponent_of h is.good.spelled.header in
    let each = All-weaker (IsCertified h.exponent) (λ item. IsTrueClaim (item_claim h.exponent item))
    (item_true h.exponent known) is.items is.good.certified in (
      map (item_claim h.exponent) is.items,
      (h, is.items, spelled, refl),
      All-map IsTrueClaim (item_claim h.exponent) is.items each,
    )

status_called : (v : Verdict) → IsCalledFor (status_of v)
status_called (Accepted count) = tt
status_called (Refused line cause) = tt

status_heard : (v : Verdict) → ¬ (IsUnheard (status_of v))
status_heard (Accepted count) unheard = unheard
status_heard (Refused line cause) unheard = unheard

verdict_one : (bytes : List ℕ) (s t : Status) → EndsByVerdict bytes s → EndsByVerdict bytes t → s ≡ t
verdict_one bytes s t (v, h, is) (w, k, also) = is ∙ ap status_of (one_verdict bytes v w h k) ∙ sym also

module _ (IsAnswer : List ℕ → Verdict → List ℕ → Type 0) where
  verdict_true : (bytes text : List ℕ) → (verdict_task IsAnswer).Writes bytes text
      → ClaimsTruly (verdict_task IsAnswer) bytes text
  verdict_true bytes text (v, is, answer) =
      let claims = verdict_claims bytes v is in (claims.0, (v, answer, claims.1), claims.2)

  pub verdict_lawful : IsLawful (verdict_task IsAnswer)
  verdict_lawful = record {
    some = λ bytes. let verdict = some_verdict bytes in (status_of verdict.0, (verdict.0, verdict.1, refl));
    one = verdict_one;
    called = λ bytes s (v, h, is). subst IsCalledFor (sym is) (status_called v);
    true = verdict_true;
  }

  -- How the task ended.
  module _ (bytes : List ℕ) (fits : length bytes ≤ map_limit) (v : Verdict) (is : IsVerdict bytes v) where
    calls : CallsFor (verdict_task IsAnswer) bytes (status_of v)
    calls = inr (λ above. omega (arith, fits, above), (v, is, refl))

    pub verdict_ended : {O : Type 0} (taken : O → Option (List ℕ)) (faults : O → ℕ) (old now : O) (s : Status)
        → IsEndOfAnswer (status_of v) s → Wrote taken faults (IsAnswer bytes v) s old now
        → HasEnded taken faults (verdict_task IsAnswer) bytes s old now
    verdict_ended taken faults old now s end wrote =
        answered taken faults (verdict_task IsAnswer) bytes (status_of v) old now (status_heard v) calls s end
        (wrote_weaker taken faults old now (IsAnswer bytes v) ((verdict_task IsAnswer).Writes bytes)
        (λ text answer. (v, is, answer)) s wrote)
