-- The texts of `merge`, `atlas` and `compare` are determined.
use Rattle.std.proofs.Common.{◌≡◌, ◌<◌, ◌≤◌, ◌⊎◌, ◌∙◌, inl, inr, ℕ, List, refl, sym, ap, ap₂, subst, arith}
use Rattle.ce_angle.specs.Fraction.{Fraction}
use Rattle.ce_atlas.specs.Atlas.{IsAtlas}
use Rattle.ce_atlas.specs.Table.{table_text}
use Rattle.ce_atlas.specs.declared.relation.Relation.{Relation}
use Rattle.ce_atlas.specs.declared.relation.Relation.TheVariants.{Equal, Below, Above, Open}
use Rattle.ce_atlas.specs.declared.row.ClassRow.{ClassRow}
use Rattle.ce_atlas.proofs.Certified.{same_rows}
use Rattle.ce_merge.specs.Merges.{HasFirstFlaw, HasGoodParts, IsMergeOf}
use Rattle.ce_merge.proofs.MergedText.{one_text}
use Rattle.ce_merge.proofs.OneAnswer.{one_first_flaw}
use Rattle.ce_rows.specs.declared.interval.Interval.{Interval}
use Rattle.ce_rows.specs.declared.row.Row.{Row}
use Rattle.ce_solve.specs.declared.settings.Settings.{Settings}
use Rattle.ce_sweep.specs.Classes.{HaveSameKneading}
use Rattle.ce_thurston.specs.Indices.{rows_at}
use Rattle.core_entropy.specs.Atlas.{IsAtlasText, still}
use Rattle.ce_atlas.specs.Relation.{AreAlike}
use Rattle.core_entropy.specs.Compare.{IsCompareText, IsRelation, compare_line}
use Rattle.core_entropy.specs.InitialEnclosure.{IsInitialEnclosure}
use Rattle.core_entropy.specs.Merge.{IsFlawText, flaw_line}
use Rattle.core_entropy.specs.Probe.{IsInitialOf}
use Rattle.core_entropy.proofs.MergeTask.{never_both}
use Rattle.core_entropy.proofs.OneText.{one_enclosure}
use Rattle.core_entropy.proofs.ProbeTask.{one_initial, one_to_two}

-- Bytes are merged to one text, or have one first flaw.
merged_or_flawed : (bytes text other : List ℕ) → IsMergeOf bytes text → IsFlawText bytes other → ⊥
merged_or_flawed bytes text other m flaw =
    let good : HasGoodParts bytes = record { header = m.header; parts = m.parts; good = m.good } in
    let first : HasFirstFlaw bytes = record { line = flaw.line; cause = flaw.cause; is = flaw.first } in
    never_both bytes good first

pub one_merge : (bytes text other : List ℕ) → IsMergeOf bytes text ⊎ IsFlawText bytes text
    → IsMergeOf bytes other ⊎ IsFlawText bytes other → text ≡ other
one_merge bytes text other (inl m) (inl n) = one_text bytes text other m n
one_merge bytes text other (inl m) (inr flaw) = absurd (merged_or_flawed bytes text other m flaw)
one_merge bytes text other (inr flaw) (inl m) = absurd (merged_or_flawed bytes other text m flaw)
one_merge bytes text other (inr first) (inr second) =
    let same =
    one_first_flaw bytes first.line second.line first.cause second.cause first.first second.first in
    first.spelled ∙ ap₂ flaw_line same.0 same.1 ∙ sym second.spelled

-- With no turns an order has one table.
abbrev pub AreDetermined : Type 0
AreDetermined =
    (settings : Settings) (order : ℕ) (rows others : List ClassRow) → settings.turns ≡ 0
    → IsAtlas settings order rows → IsAtlas settings order others → table_text rows ≡ table_text others

pub one_table : AreDetermined → (order rounds exponent : ℕ) (text other : List ℕ)
    → IsAtlasText order rounds exponent text → IsAtlasText order rounds exponent other → text ≡ other
one_table one order rounds exponent text other h k =
    h.spelled ∙ one (still rounds exponent) order h.rows k.rows refl h.atlas k.atlas ∙ sym k.spelled

-- Two angles with their initial enclosures stand to each other in one way.
module _ (a b : Fraction) (rounds exponent : ℕ) (i j : Interval)
    (x : IsInitialOf rounds exponent a i) (y : IsInitialOf rounds exponent b j) where
  first_ordered : i.low ≤ i.high
  first_ordered = (one_to_two (rows_at x.orbit exponent) rounds i x.initial).ordered

  second_ordered : j.low ≤ j.high
  second_ordered = (one_to_two (rows_at y.orbit exponent) rounds j y.initial).ordered

  -- With one kneading sequence they have one transition matrix, and so one initial enclosure.
  same_initial : HaveSameKneading a b → i ≡ j
  same_initial alike =
      let first = subst (λ f. HaveSameKneading f b) (sym x.of_angle) alike in
      let both = subst (λ f. HaveSameKneading x.orbit.angle f) (sym y.of_angle) first in
      let rows = same_rows x.orbit y.orbit x.is_orbit y.is_orbit both in
      let Initial : List Row → Type 0 =
      λ list. IsInitialEnclosure (record { list = list; exponent = exponent }) rounds j in
      one_enclosure (rows_at x.orbit exponent) rounds i j x.initial (subst Initial (sym rows) y.initial)

  meet : AreAlike a b i j → (j.low ≤ i.high) × (i.low ≤ j.high)
  meet (inl alike) =
      let same = same_initial alike in (
        subst (λ (k : Interval). k.low ≤ i.high) same first_ordered,
        subst (λ (k : Interval). i.low ≤ k.high) same first_ordered,
      )
  meet (inr number) =
      let one = number.first in
      let two = number.second in
      let same = number.same in
      (omega (arith, one, two, same), omega (arith, one, two, same))

  alike_below : AreAlike a b i j → i.high < j.low → ⊥
  alike_below alike less = omega (arith, (meet alike).0, less)

  alike_above : AreAlike a b i j → j.high < i.low → ⊥
  alike_above alike less = omega (arith, (meet alike).1, less)

  below_above : i.high < j.low → j.high < i.low → ⊥
  below_above less more = omega (arith, first_ordered, second_ordered, less, more)

  one_relation : (r s : Relation) → IsRelation a b i j r → IsRelation a b i j s → r ≡ s
  one_relation Equal Equal h k = refl
  one_relation Equal Below h k = absurd (alike_below h k)
  one_relation Equal Above h k = absurd (alike_above h k)
  one_relation Equal Open h k = absurd (k.0 h)
  one_relation Below Equal h k = absurd (alike_below k h)
  one_relation Below Below h k = refl
  one_relation Below Above h k = absurd (below_above h k)
  one_relation Below Open h k = absurd (k.1.0 h)
  one_relation Above Equal h k = absurd (alike_above k h)
  one_relation Above Below h k = absurd (below_above k h)
  one_relation Above Above h k = refl
  one_relation Above Open h k = absurd (k.1.1 h)
  one_relation Open Equal h k = absurd (h.0 k)
  one_relation Open Below h k = absurd (h.1.0 k)
  one_relation Open Above h k = absurd (h.1.1 k)
  one_relation Open Open h k = refl

pub one_comparison : (a b : Fraction) (rounds exponent : ℕ) (text other : List ℕ)
    → IsCompareText a b rounds exponent text → IsCompareText a b rounds exponent other → text ≡ other
one_comparison a b rounds exponent text other h k =
    let x = h.compared in
    let y = k.compared in
    let first = one_initial rounds exponent a y.first x.first y.first_is x.first_is in
    let second = one_initial rounds exponent b y.second x.second y.second_is x.second_is in
    let at_first = subst (λ i. IsRelation a b i y.second k.relation) first y.is in
    let at_both = subst (λ j. IsRelation a b x.first j k.relation) second at_first in
    let same = one_relation a b rounds exponent x.first x.second x.first_is x.second_is h.relation k.relation
    x.is at_both in
    h.spelled ∙ ap (compare_line a b) same ∙ sym k.spelled
