-- The task of the command `map`.
use Rattle.std.proofs.Common.{◌≡◌, ◌<◌, ◌≤◌, ◌++◌, ◌∙◌, inl, inr, ℕ, List, [], get_or, length, map, refl}
use Rattle.std.proofs.Common.{sym, ap, subst, arith}
use Rattle.std.specs.Prelude.{All}
use Rattle.std.specs.List.{flat_map, range_with_len}
use Rattle.std.proofs.lemmas.Bool.{cases_lt}
use Rattle.std.proofs.lemmas.List.{get_or-map, get_or_default, length-map, same_lists}
use Rattle.std.proofs.lemmas.List.Elements.{All-contains, All-from_get_or, All-get_or, All-map, All-weaker}
use Rattle.std.proofs.lemmas.List.FromFn.{get_or-map-range_with_len, length-map-range_with_len}
use Rattle.ce_angle.specs.Farey.{AreAnglesUpTo, IsAngleUpTo}
use Rattle.ce_angle.specs.Fraction.{Fraction}
use Rattle.ce_cert.specs.Certificate.{Evidence, IsCertificate}
use Rattle.ce_cert.specs.Evidence.{evidence_in}
use Rattle.ce_cert.proofs.Enclose.{certificate_encloses}
use Rattle.ce_map.specs.Digits.{IsNumber}
use Rattle.ce_map.specs.Grammar.{IsItem, Item, end_line, header_line, item_text}
use Rattle.ce_orbit.specs.Orbit.{ForwardOrbit, IsForwardOrbit}
use Rattle.ce_rows.specs.Rows.{AreScaledRows}
use Rattle.ce_rows.specs.Scale.{IsExponent}
use Rattle.ce_solve.specs.SolvedAngle.{MaySolve}
use Rattle.ce_solve.specs.SolvedRows.{Closing, closing_in}
use Rattle.ce_solve.specs.declared.collecting.Solved.{Solved}
use Rattle.ce_solve.specs.declared.settings.Settings.{Settings}
use Rattle.ce_sweep.specs.Answers.{AreSolvedBy}
use Rattle.ce_thurston.specs.Indices.{rows_at}
use Rattle.ce_thurston.proofs.OrbitRows.{rows_in_range}
use Rattle.core_entropy.specs.Angle.{interval_of}
use Rattle.core_entropy.specs.Headline.{ClaimsTruly, IsTrueClaim}
use Rattle.core_entropy.specs.Map.{IsMapText, IsSolvedItem, header_of, map_task, solved_claim}
use Rattle.core_entropy.specs.MapInside.{AreItemsOf, no_item}
use Rattle.core_entropy.specs.Status.{IsCalledFor}
use Rattle.core_entropy.specs.declared.status.Status.TheVariants.{Done}
use Rattle.ce_sweep.proofs.Assembled.{some_of}
use Rattle.core_entropy.proofs.AngleTask.{claim_true, inside_initial}
use Rattle.core_entropy.proofs.Stages.{IsLawful}

-- An item that the program solved makes a true claim.
pub item_true : (rounds turns workers exponent : ℕ) → IsExponent exponent → (item : Item)
    → IsSolvedItem rounds turns workers exponent item → IsTrueClaim (solved_claim rounds exponent item)
item_true rounds turns workers exponent known item h =
    let rows = rows_at h.orbit exponent in
    let are : AreScaledRows rows = record { rows = rows_in_range h.orbit h.is_orbit h.few; scale = known } in
    let encloses = certificate_encloses rows h.closing.evidence are h.solution.certificate in
    let inside = inside_initial rows rounds turns workers h.closing are h.solution in
    let claim = claim_true h.orbit item.angle rounds exponent (interval_of h.closing)
    h.is_orbit h.of_angle encloses inside in
    subst (λ e. IsTrueClaim (solved_claim rounds exponent (record { angle = item.angle; evidence = e })))
    (sym h.evidence) claim

module _ (order rounds turns workers exponent : ℕ) (known : IsExponent exponent) where
  map_true : (input text : List ℕ) → IsMapText order rounds turns workers exponent text
      → ClaimsTruly (map_task order rounds turns workers exponent) input text
  map_true input text h =
      let each =
      All-weaker (IsSolvedItem rounds turns workers exponent)
      (λ item. IsTrueClaim (solved_claim rounds exponent item))
      (item_true rounds turns workers exponent known) h.items h.each in (
        map (solved_claim rounds exponent) h.items,
        (h.items, h.spelled, refl),
        All-map IsTrueClaim (solved_claim rounds exponent) h.items each,
      )

  pub map_lawful : IsLawful (map_task order rounds turns workers exponent)
  map_lawful = record {
    some = λ input. (Done, refl);
    one = λ input s t h k. h ∙ sym k;
    called = λ input s h. subst IsCalledFor (sym h) tt;
    true = map_true;
  }

-- A certificate that holds for the rows of a short orbit can be written.
written_is : (angle : Fraction) (e : Evidence) (order exponent : ℕ) (o : ForwardOrbit) → IsForwardOrbit o
    → length o.places ≤ 128 → order ≤ 128 → IsAngleUpTo order angle → IsCertificate (rows_at o exponent) e
    → IsItem (record { angle = angle; evidence = e })
written_is angle e order exponent o is_orbit short few up cert =
    let rows = rows_in_range o is_orbit short in
    let some = rows.some in
    let most = rows.few in
    let below = up.angle.below_one in
    let small = up.small in
    let Low : ℕ → Type 0 = λ rank. rank < length (rows_at o exponent).list in
    record {
      num = omega (arith, below, small, few);
      den = omega (arith, small, few);
      low = cert.entries.low;
      high = cert.entries.high;
      ranks = record {
        some = omega (arith, some, cert.lengths.ranks);
        small = All-weaker Low IsNumber (λ rank less. omega (arith, less, most)) e.ranks cert.ranking.ranking.below;
      };
      low_rank =
          (let less = All-contains Low e.ranks e.low_rank cert.ranking.ranking.below cert.ranking.low_rank in
          omega (arith, less, most));
      low_vector =
          record { some = omega (arith, some, cert.lengths.low_vector); small = cert.entries.low_vector.small };
      high_vector =
          record { some = omega (arith, some, cert.lengths.high_vector); small = cert.entries.high_vector.small };
    }

item_is : (settings : Settings) (angle : Fraction) (closing : Closing) (order : ℕ) → order ≤ 128
    → IsAngleUpTo order angle → MaySolve settings angle closing
    → IsItem (record { angle = angle; evidence = closing.evidence })
item_is settings angle closing order few up may =
    written_is angle closing.evidence order settings.scale may.orbit may.is_orbit
    may.few few up may.solution.certificate

pub solved_is_item : (order rounds turns workers exponent : ℕ) (item : Item) → order ≤ 128
    → IsAngleUpTo order item.angle → IsSolvedItem rounds turns workers exponent item → IsItem item
solved_is_item order rounds turns workers exponent item few up h =
    written_is item.angle item.evidence order exponent h.orbit h.is_orbit h.few few up
    (subst (IsCertificate (rows_at h.orbit exponent)) (sym h.evidence) h.solution.certificate)

module _ (settings : Settings) (angles : List Fraction) (of first : List ℕ) (solutions : List Solved)
    (solved : AreSolvedBy settings angles of first solutions) where
  class_within : (k : ℕ) → k < length angles → get_or of k 0 < length solutions
  class_within k within =
      let less = solved.classes.below k (omega (arith, within, solved.classes.each)) in omega (arith, less, solved.each)

  pub place_is_item : All (IsAngleUpTo 128) angles → (k : ℕ) (d : Fraction) (e : Solved) → k < length angles
      → IsItem (record {
        angle = get_or angles k d;
        evidence = evidence_in (get_or solutions (get_or of k 0) e).certificate;
      })
  place_is_item small k d e within =
      item_is settings (get_or angles k d) (closing_in (get_or solutions (get_or of k 0) e)) 128 (omega arith)
      (All-get_or (IsAngleUpTo 128) angles k d within small) (solved.solves k d e within)

  -- there are such items
  items_by : (s : Solved) → (items : List Item) × AreItemsOf angles of solutions items
  items_by s =
      let zero_angle : Fraction = record { num = 0; den = 1 } in
      let item : ℕ → Item =
      λ k. record {
        angle = get_or angles k zero_angle;
        evidence = evidence_in (get_or solutions (get_or of k 0) s).certificate;
      } in
      let here : (k : ℕ) → k < length angles → get_or (map item (range_with_len 0 (length angles))) k no_item ≡ item k =
      λ k within. get_or-map-range_with_len item 0 (length angles) k k no_item within (omega arith) in (
        map item (range_with_len 0 (length angles)),
        record {
          each = length-map-range_with_len item 0 (length angles);
          angle = λ k d within. ap (λ i. i.angle) (here k within) ∙ get_or_default angles k zero_angle d within;
          evidence = λ k e within. ap (λ i. i.evidence) (here k within)
              ∙ ap (λ x. evidence_in x.certificate)
              (get_or_default solutions (get_or of k 0) s e (class_within k within));
        },
      )

  pub some_items : (items : List Item) × AreItemsOf angles of solutions items
  some_items = elim (cases_lt 0 (length angles)) [
    | inl some ↦ items_by (some_of solutions (let less = class_within 0 some in omega (arith, less)))
    | inr none ↦ (
      [],
      record {
        each = omega (arith, none);
        angle = λ k d within. absurd (omega (arith, none, within));
        evidence = λ k e within. absurd (omega (arith, none, within));
      },
    )
  ]

  module _ (items : List Item) (are : AreItemsOf angles of solutions items) where
    pub item_here : (k : ℕ) (d : Fraction) (e : Solved) → k < length angles
        → (let item : Item = record {
          angle = get_or angles k d;
          evidence = evidence_in (get_or solutions (get_or of k 0) e).certificate;
        } in item) ≡ get_or items k no_item
    item_here k d e within =
        let a = are.angle k d within in
        let b = are.evidence k e within in
        λ j. record { angle = sym a j; evidence = sym b j }

    pub angles_same : map (λ item. item.angle) items ≡ angles
    angles_same =
        let long = length-map items (λ (item : Item). item.angle) in
        same_lists (map (λ item. item.angle) items) angles (long ∙ are.each) (λ k d within.
        get_or-map (λ (item : Item). item.angle) items k no_item d (omega (arith, within, long))
        ∙ are.angle k d (omega (arith, within, long, are.each)))

    pub items_solved : All (IsSolvedItem settings.rounds settings.turns settings.workers settings.scale) items
    items_solved =
        All-from_get_or (IsSolvedItem settings.rounds settings.turns settings.workers settings.scale)
        items no_item (λ k within.
        let inside : k < length angles = omega (arith, within, are.each) in
        let some = class_within k inside in
        let s = some_of solutions (omega (arith, some)) in
        let zero_angle : Fraction = record { num = 0; den = 1 } in
        let may = solved.solves k zero_angle s inside in
        record {
          orbit = may.orbit;
          is_orbit = may.is_orbit;
          of_angle = may.of_angle ∙ sym (are.angle k zero_angle inside);
          few = may.few;
          closing = closing_in (get_or solutions (get_or of k 0) s);
          solution = may.solution;
          evidence = are.evidence k s inside;
        })

    pub map_is : (order : ℕ) → AreAnglesUpTo order angles → (start : List ℕ)
        → start ≡ header_line (header_of order settings.scale) → (count : ℕ) → count ≡ length angles
        → IsMapText order settings.rounds settings.turns settings.workers settings.scale
        ((start ++ flat_map (item_text 2) items) ++ end_line count)
    map_is order all start begins count counted = record {
      items = items;
      angles = subst (AreAnglesUpTo order) (sym angles_same) all;
      each = items_solved;
      spelled = ap (λ s. (s ++ flat_map (item_text 2) items) ++ end_line count) begins
          ∙ ap (λ n. (header_line (header_of order settings.scale) ++ flat_map (item_text 2) items) ++ end_line n)
          (counted ∙ sym are.each);
    }

-- The item that is appended for the angle at a place: e is the certificate's, as it was read.
module _ (settings : Settings) (angles : List Fraction) (of first : List ℕ) (solutions : List Solved)
    (solved : AreSolvedBy settings angles of first solutions) (k : ℕ) (angle : Fraction) (class : ℕ) (s : Solved)
    (e : Evidence) (within : k < length angles) (angle_is : angle ≡ get_or angles k angle)
    (class_is : class ≡ get_or of k class) (s_is : s ≡ get_or solutions class s)
    (e_is : e ≡ evidence_in s.certificate) where
  class_same : class ≡ get_or of k 0
  class_same = class_is ∙ get_or_default of k class 0 (omega (arith, within, solved.classes.each))

  s_same : s ≡ get_or solutions (get_or of k 0) s
  s_same = s_is ∙ ap (λ n. get_or solutions n s) class_same

  item_same : (let item : Item = record {
    angle = get_or angles k angle;
    evidence = evidence_in (get_or solutions (get_or of k 0) s).certificate;
  } in item)
      ≡ (let item : Item = record { angle = angle; evidence = e } in item)
  item_same =
      let evidence = ap (λ x. evidence_in x.certificate) (sym s_same) ∙ sym e_is in
      λ j. record { angle = sym angle_is j; evidence = evidence j }

  pub class_is_item : All (IsAngleUpTo 128) angles → IsItem (record { angle = angle; evidence = e })
  class_is_item small =
      subst IsItem item_same (place_is_item settings angles of first solutions solved small k angle s within)

  pub class_spelled : (items : List Item) → AreItemsOf angles of solutions items
      → item_text 2 (record { angle = angle; evidence = e }) ≡ item_text 2 (get_or items k no_item)
  class_spelled items are =
      ap (item_text 2) (sym item_same ∙ item_here settings angles of first solutions solved items are k angle s within)

-- What is written of angles that are solved, after the header on an empty page.
pub record HasMap (settings : Settings) (order : ℕ) (angles : List Fraction) (of : List ℕ) (solutions : List Solved)
    (start : List ℕ) : Type 0 where
  pub items : List Item
  pub are : AreItemsOf angles of solutions items
  pub is_text : IsMapText order settings.rounds settings.turns settings.workers settings.scale
      ((start ++ flat_map (item_text 2) items) ++ end_line (length angles))

pub map_ready : (settings : Settings) (order : ℕ) (angles : List Fraction) (of first : List ℕ) (solutions : List Solved)
    (page start : List ℕ) → AreSolvedBy settings angles of first solutions → AreAnglesUpTo order angles → page ≡ []
    → start ≡ page ++ header_line (header_of order settings.scale) → HasMap settings order angles of solutions start
map_ready settings order angles of first solutions page start solved all empty begun =
    let some = some_items settings angles of first solutions solved in
    record {
      items = some.0;
      are = some.1;
      is_text = map_is settings angles of first solutions solved some.0 some.1 order all start
          (begun ∙ ap (λ p. p ++ header_line (header_of order settings.scale)) empty) (length angles) refl;
    }
