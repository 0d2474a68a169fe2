-- What is said of an item.
use Rattle.std.proofs.Common.{◌≡◌, ℕ, sym, ap, subst, ◌∙◌}
use Rattle.ce_angle.specs.Fraction.{Fraction}
use Rattle.ce_cert.specs.Certificate.{IsCertificate}
use Rattle.ce_cert.specs.Evidence.{IsFirstFlaw}
use Rattle.ce_cert.specs.declared.certificate.Flaw.{Flaw}
use Rattle.ce_map.specs.Grammar.{Item}
use Rattle.ce_map.specs.Views.{Shows}
use Rattle.ce_map.specs.declared.record_view.RecordView.{RecordView}
use Rattle.ce_orbit.specs.Orbit.{ForwardOrbit}
use Rattle.ce_rows.specs.Rows.{ScaledRows}
use Rattle.ce_check.specs.Flaws.{HasFlaw}
use Rattle.ce_check.specs.GoodMap.{IsShortOrbitOf, IsCertified}
use Rattle.ce_thurston.specs.Indices.{rows_at}

abbrev pub fraction : ℕ → ℕ → Fraction
fraction num den = record { num = num; den = den }

pub angle_shown : (version : ℕ) (item : Item) (view : RecordView) → Shows version item view
    → fraction view.num view.den ≡ item.angle
angle_shown version item view is = ap (λ n. fraction n view.den) is.num ∙ ap (fraction item.angle.num) is.den

module _ (scale : ℕ) (item : Item) (angle : Fraction) (same : angle ≡ item.angle) (o : ForwardOrbit) where
  rows_same : (made rows : ScaledRows) → made ≡ rows_at o 32
      → rows ≡ (let r : ScaledRows = record { list = made.list; exponent = scale } in r) → rows ≡ rows_at o scale
  rows_same made rows first second =
      let at : ScaledRows → ScaledRows = λ m. record { list = m.list; exponent = scale } in
      second ∙ ap at first

  module _ (short : IsShortOrbitOf angle o) (made rows : ScaledRows) (first : made ≡ rows_at o 32)
      (second : rows ≡ (let r : ScaledRows = record { list = made.list; exponent = scale } in r)) where
    pub certified : IsCertificate rows item.evidence → IsCertified scale item
    certified holds = record {
      orbit = o;
      short = subst (λ a. IsShortOrbitOf a o) same short;
      holds = subst (λ r. IsCertificate r item.evidence) (rows_same made rows first second) holds;
    }

    pub flawed : (f : Flaw) → IsFirstFlaw rows item.evidence f → HasFlaw scale item f
    flawed f flaw = record {
      orbit = o;
      short = subst (λ a. IsShortOrbitOf a o) same short;
      first = subst (λ r. IsFirstFlaw r item.evidence f) (rows_same made rows first second) flaw;
    }

pub no_orbit : (item : Item) (angle : Fraction) → angle ≡ item.angle → ((o : ForwardOrbit) → ¬ (IsShortOrbitOf angle o))
    → (o : ForwardOrbit) → ¬ (IsShortOrbitOf item.angle o)
no_orbit item angle same none o short = none o (subst (λ a. IsShortOrbitOf a o) (sym same) short)
