-- What can be found out of a text: whether a part begins there, and what is wrong with an item.
use Rattle.std.proofs.Common.{◌≡◌, ◌*◌, ◌⊎◌, ◌∙◌, inl, inr, ℕ, List, ◌++◌}
use Rattle.std.proofs.Common.{Option, Some, None, refl, sym, ap, arith}
use Rattle.std.specs.List.{All}
use Rattle.std.proofs.lemmas.Option.{none-some}
use Rattle.ce_angle.specs.Farey.{IsAngleUpTo}
use Rattle.ce_angle.specs.Order.{IsBelow}
use Rattle.ce_angle.proofs.FareyList.{all_angles}
use Rattle.ce_cert.specs.declared.certificate.Flaw.{Flaw}
use Rattle.ce_cert.specs.declared.certificate.Flaw.TheVariants as flaw
use Rattle.ce_cert.proofs.FirstFlaw.{Test, all_or_not, below_or_not, both, holds_or_flaw, same_or_not, test_by}
use Rattle.ce_check.specs.Flaws.{HasFlaw}
use Rattle.ce_check.specs.GoodMap.{IsCertified}
use Rattle.ce_check.proofs.CheckLaws.{short_orbit}
use Rattle.ce_check.proofs.SomeVerdict.{few_order, up_to_or_not}
use Rattle.ce_map.specs.Grammar.{Header, Item}
use Rattle.ce_map.specs.PartGrammar.{IsPartHeader, LacksPart, part_line}
use Rattle.ce_map.specs.PartsInside.{part_front}
use Rattle.ce_map.proofs.PartLaws.{part_is_at, part_read}
use Rattle.ce_thurston.specs.Indices.{rows_at}
use Rattle.ce_merge.specs.Flaws.{IsItemCause, MayFollow}
use Rattle.ce_merge.specs.declared.merged.MergeCause.{MergeCause}
use Rattle.ce_merge.specs.declared.merged.MergeCause.TheVariants as cause

-- A header of a part stands at the front of a text, or none does.
pub record HasPart (text : List ℕ) : Type 0 where
  pub header : Header
  pub rest : List ℕ
  pub is_header : IsPartHeader header
  pub spelled : text ≡ part_line header ++ rest

part_by : (text : List ℕ) (found : Option (Header × List ℕ)) → part_front text ≡ found → HasPart text ⊎ LacksPart text
part_by text (Some (h, rest)) read =
    let at = part_is_at text h rest read in
    inl (record { header = h; rest = rest; is_header = at.header; spelled = at.spelled })
part_by text None read =
    inr (λ h rest is same. none-some _ (sym read ∙ ap part_front same ∙ part_read h rest is))

pub part_or_not : (text : List ℕ) → HasPart text ⊎ LacksPart text
part_or_not text = part_by text (part_front text) refl

pub same_header_or_not : (g h : Header) → Test (g ≡ h)
same_header_or_not g h =
    let with_version : ℕ → Header = λ v. record { version = v; order = g.order; exponent = g.exponent } in
    let with_order : ℕ → Header = λ n. record { version = h.version; order = n; exponent = g.exponent } in
    let with_exponent : ℕ → Header = λ e. record { version = h.version; order = h.order; exponent = e } in
    test_by (◌≡◌ g.version h.version × (◌≡◌ g.order h.order × ◌≡◌ g.exponent h.exponent)) (g ≡ h)
    (λ e. ap with_version e.0 ∙ ap with_order e.1.0 ∙ ap with_exponent e.1.1)
    (λ e. (ap (λ x. x.version) e, (ap (λ x. x.order) e, ap (λ x. x.exponent) e)))
    (both _ _ (same_or_not g.version h.version)
    (both _ _ (same_or_not g.order h.order) (same_or_not g.exponent h.exponent)))

-- What is found of an item after good items of its part.
not_or_so : (P : Type 0) → Test P → Test (¬ P)
not_or_so P (inl so) = inr (λ none. none so)
not_or_so P (inr none) = inl none

module _ (h : Header) (is : IsPartHeader h) (items : List Item) (item : Item) where
  may_or_not : Test (MayFollow h.order items item.angle)
  may_or_not =
      let all =
      all_angles h.order (let some = is.header.some in omega (arith, some)) (let few = few_order h is.header in
      omega (arith, few)) in
      let After : Item → Type 0 = λ i. ¬ (IsBelow item.angle i.angle) in
      test_by (IsAngleUpTo h.order item.angle × All After items) (MayFollow h.order items item.angle)
      (λ p. record { up = p.0; after = p.1 }) (λ m. (m.up, m.after))
      (both _ _ (up_to_or_not h.order _ all item.angle)
      (all_or_not After (λ i. not_or_so _ (below_or_not (item.angle.num * i.angle.den) (i.angle.num * item.angle.den)))
      items))

  abbrev pub Look : Type 0
  Look = (MayFollow h.order items item.angle × IsCertified h.exponent item)
      ⊎ ((c : MergeCause) × IsItemCause h.order h.exponent items item c)

  flawed_by : MayFollow h.order items item.angle → (f : Flaw) → HasFlaw h.exponent item f → Look
  flawed_by may flaw.Length has = inr (cause.Length, (may, has))
  flawed_by may flaw.Rank has = inr (cause.Rank, (may, has))
  flawed_by may flaw.Entry has = inr (cause.Entry, (may, has))
  flawed_by may flaw.Low has = inr (cause.Low, (may, has))
  flawed_by may flaw.High has = inr (cause.High, (may, has))

  pub look : Look
  look = elim may_or_not [
    | inr none ↦ inr (cause.Order, none)
    | inl may ↦
        let short = short_orbit h.order item.angle item.angle (few_order h is.header) may.up refl in
        elim (holds_or_flaw (rows_at short.0 h.exponent) item.evidence) [
          | inl holds ↦ inl (may, record { orbit = short.0; short = short.1; holds = holds })
          | inr (f, first) ↦ flawed_by may f (record { orbit = short.0; short = short.1; first = first })
        ]
  ]
