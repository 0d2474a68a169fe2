-- An item has one verdict, and one cause where an angle is expected.
use Rattle.std.proofs.Common.{◌≡◌, ℕ, List, refl, sym, ap, subst, ◌∙◌, ◌⊎◌, inl, inr, Option, Some, None}
use Rattle.ce_angle.specs.Fraction.{Fraction}
use Rattle.ce_cert.specs.Certificate.{Evidence}
use Rattle.ce_cert.specs.Evidence.{IsFirstFlaw}
use Rattle.ce_cert.specs.declared.certificate.Flaw.{Flaw}
use Rattle.ce_cert.specs.declared.certificate.Flaw.TheVariants as flaw
use Rattle.ce_map.specs.Grammar.{Item}
use Rattle.ce_orbit.proofs.Unique.{one_orbit}
use Rattle.ce_rows.specs.Rows.{ScaledRows}
use Rattle.ce_thurston.specs.Indices.{rows_at}
use Rattle.ce_check.specs.ChecksInside.{cause_of}
use Rattle.ce_check.specs.Flaws.{IsExpected, IsAbove, IsItemCause, HasFlaw}
use Rattle.ce_check.specs.Verdicts.{IsItemVerdict}
use Rattle.ce_check.specs.declared.item.ItemFlaw.{ItemFlaw}
use Rattle.ce_check.specs.declared.item.ItemFlaw.TheVariants as item_flaw
use Rattle.ce_check.specs.declared.verdict.Cause.{Cause}
use Rattle.ce_check.specs.declared.verdict.Cause.TheVariants.{Form, Order, Missing, Length, Rank, Entry, Low, High}
use Rattle.ce_check.specs.declared.verdict.Cause.TheVariants.{Count, Tail}
use Rattle.ce_check.proofs.OneFront.{no_flaw, not_above}

-- a certificate has one first flaw
one_flaw : (rows : ScaledRows) (e : Evidence) (f g : Flaw) → IsFirstFlaw rows e f → IsFirstFlaw rows e g → f ≡ g
one_flaw rows e flaw.Length flaw.Length h k = refl
one_flaw rows e flaw.Length flaw.Rank h k = absurd (h k.0)
one_flaw rows e flaw.Length flaw.Entry h k = absurd (h k.0)
one_flaw rows e flaw.Length flaw.Low h k = absurd (h k.0)
one_flaw rows e flaw.Length flaw.High h k = absurd (h k.0)
one_flaw rows e flaw.Rank flaw.Length h k = absurd (k h.0)
one_flaw rows e flaw.Rank flaw.Rank h k = refl
one_flaw rows e flaw.Rank flaw.Entry h k = absurd (h.1 k.1)
one_flaw rows e flaw.Rank flaw.Low h k = absurd (h.1 k.1)
one_flaw rows e flaw.Rank flaw.High h k = absurd (h.1 k.1)
one_flaw rows e flaw.Entry flaw.Length h k = absurd (k h.0)
one_flaw rows e flaw.Entry flaw.Rank h k = absurd (k.1 h.1)
one_flaw rows e flaw.Entry flaw.Entry h k = refl
one_flaw rows e flaw.Entry flaw.Low h k = absurd (h.2 k.2)
one_flaw rows e flaw.Entry flaw.High h k = absurd (h.2 k.2)
one_flaw rows e flaw.Low flaw.Length h k = absurd (k h.0)
one_flaw rows e flaw.Low flaw.Rank h k = absurd (k.1 h.1)
one_flaw rows e flaw.Low flaw.Entry h k = absurd (k.2 h.2)
one_flaw rows e flaw.Low flaw.Low h k = refl
one_flaw rows e flaw.Low flaw.High h k = absurd (h.3 k.3)
one_flaw rows e flaw.High flaw.Length h k = absurd (k h.0)
one_flaw rows e flaw.High flaw.Rank h k = absurd (k.1 h.1)
one_flaw rows e flaw.High flaw.Entry h k = absurd (k.2 h.2)
one_flaw rows e flaw.High flaw.Low h k = absurd (k.3 h.3)
one_flaw rows e flaw.High flaw.High h k = refl

pub same_flaw : (exponent : ℕ) (item : Item) (f g : Flaw) → HasFlaw exponent item f → HasFlaw exponent item g → f ≡ g
same_flaw exponent item f g h k =
    let same = one_orbit k.orbit h.orbit k.short.is_orbit h.short.is_orbit (k.short.of_angle ∙ sym h.short.of_angle) in
    one_flaw (rows_at h.orbit exponent) item.evidence f g h.first
    (subst (λ o. IsFirstFlaw (rows_at o exponent) item.evidence g) same k.first)

-- what is said of an item is one thing
pub one_item_verdict : (exponent : ℕ) (item : Item) (r s : Option ItemFlaw) → IsItemVerdict exponent item r
    → IsItemVerdict exponent item s → r ≡ s
one_item_verdict exponent item None None h k = refl
one_item_verdict exponent item None (Some item_flaw.Angle) h k = absurd (k h.orbit h.short)
one_item_verdict exponent item None (Some (item_flaw.Cert g)) h k = absurd (no_flaw exponent item g k h)
one_item_verdict exponent item (Some item_flaw.Angle) None h k = absurd (h k.orbit k.short)
one_item_verdict exponent item (Some item_flaw.Angle) (Some item_flaw.Angle) h k = refl
one_item_verdict exponent item (Some item_flaw.Angle) (Some (item_flaw.Cert g)) h k = absurd (h k.orbit k.short)
one_item_verdict exponent item (Some (item_flaw.Cert f)) None h k = absurd (no_flaw exponent item f h k)
one_item_verdict exponent item (Some (item_flaw.Cert f)) (Some item_flaw.Angle) h k = absurd (k h.orbit h.short)
one_item_verdict exponent item (Some (item_flaw.Cert f)) (Some (item_flaw.Cert g)) h k =
    ap (λ x. Some (item_flaw.Cert x)) (same_flaw exponent item f g h k)

-- an item has one cause
record IsMissing (order : ℕ) (left : List Fraction) (item : Item) (c : Cause) : Type 0 where
  cause : c ≡ Missing
  above : IsAbove order left item.angle

record IsOutOfOrder (order : ℕ) (left : List Fraction) (item : Item) (c : Cause) : Type 0 where
  cause : c ≡ Order
  other : ¬ (IsExpected left item.angle)
  below : ¬ (IsAbove order left item.angle)

record IsFlawed (exponent : ℕ) (left : List Fraction) (item : Item) (c : Cause) : Type 0 where
  flaw_is : Flaw
  cause : c ≡ cause_of flaw_is
  expected : IsExpected left item.angle
  flawed : HasFlaw exponent item flaw_is

module _ (order exponent : ℕ) (left : List Fraction) (item : Item) where
  cause_kind : (c : Cause) → IsItemCause order exponent left item c
      → IsMissing order left item c ⊎ (IsOutOfOrder order left item c ⊎ IsFlawed exponent left item c)
  cause_kind Missing h = inl (record { cause = refl; above = h })
  cause_kind Order h = inr (inl (record { cause = refl; other = h.0; below = h.1 }))
  cause_kind Length h = inr (inr (record { flaw_is = flaw.Length; cause = refl; expected = h.0; flawed = h.1 }))
  cause_kind Rank h = inr (inr (record { flaw_is = flaw.Rank; cause = refl; expected = h.0; flawed = h.1 }))
  cause_kind Entry h = inr (inr (record { flaw_is = flaw.Entry; cause = refl; expected = h.0; flawed = h.1 }))
  cause_kind Low h = inr (inr (record { flaw_is = flaw.Low; cause = refl; expected = h.0; flawed = h.1 }))
  cause_kind High h = inr (inr (record { flaw_is = flaw.High; cause = refl; expected = h.0; flawed = h.1 }))
  cause_kind Form h = absurd h
  cause_kind Count h = absurd h
  cause_kind Tail h = absurd h

  same_cause : (c d : Cause)
      → IsMissing order left item c ⊎ (IsOutOfOrder order left item c ⊎ IsFlawed exponent left item c)
      → IsMissing order left item d ⊎ (IsOutOfOrder order left item d ⊎ IsFlawed exponent left item d) → c ≡ d
  same_cause c d (inl h) (inl k) = h.cause ∙ sym k.cause
  same_cause c d (inl h) (inr (inl k)) = absurd (k.below h.above)
  same_cause c d (inl h) (inr (inr k)) = absurd (not_above order left item.angle h.above k.expected)
  same_cause c d (inr (inl h)) (inl k) = absurd (h.below k.above)
  same_cause c d (inr (inl h)) (inr (inl k)) = h.cause ∙ sym k.cause
  same_cause c d (inr (inl h)) (inr (inr k)) = absurd (h.other k.expected)
  same_cause c d (inr (inr h)) (inl k) = absurd (not_above order left item.angle k.above h.expected)
  same_cause c d (inr (inr h)) (inr (inl k)) = absurd (k.other h.expected)
  same_cause c d (inr (inr h)) (inr (inr k)) =
      h.cause ∙ ap cause_of (same_flaw exponent item h.flaw_is k.flaw_is h.flawed k.flawed) ∙ sym k.cause

  pub one_cause : (c d : Cause) → IsItemCause order exponent left item c
      → IsItemCause order exponent left item d → c ≡ d
  one_cause c d h k = same_cause c d (cause_kind c h) (cause_kind d k)
