-- The task of the command `part`.
use Rattle.std.proofs.Common.{◌≡◌, ◌<◌, ◌≤◌, ◌-◌, ◌^◌, ◌++◌, ◌⊎◌, ◌∙◌, inl, inr, ℕ, List, [], Option}
use Rattle.std.proofs.Common.{drop, length, length-drop, length-take, map, refl, sym, ap, subst, arith, append_assoc}
use Rattle.std.specs.Prelude.{All}
use Rattle.std.specs.List.{flat_map}
use Rattle.std.proofs.lemmas.Bool.{cases_lt}
use Rattle.std.proofs.lemmas.List.Elements.{All-drop, All-map, All-take, All-weaker}
use Rattle.ce_angle.specs.Farey.{AreAnglesUpTo, IsAngleUpTo}
use Rattle.ce_angle.specs.Fraction.{Fraction}
use Rattle.ce_angle.proofs.FareyList.{all_angles}
use Rattle.ce_angle.proofs.OneList.{one_list}
use Rattle.ce_map.specs.Grammar.{Item, end_line, item_text}
use Rattle.ce_map.specs.PartGrammar.{part_line}
use Rattle.ce_rows.specs.Scale.{IsExponent}
use Rattle.ce_solve.specs.declared.collecting.Solved.{Solved}
use Rattle.ce_solve.specs.declared.settings.Settings.{Settings}
use Rattle.ce_sweep.specs.Answers.{AreSolvedBy}
use Rattle.core_entropy.specs.Calls.{CallsFor}
use Rattle.core_entropy.specs.Headline.{ClaimsTruly, IsTrueClaim}
use Rattle.core_entropy.specs.Map.{IsSolvedItem, header_of, solved_claim}
use Rattle.core_entropy.specs.MapInside.{AreItemsOf}
use Rattle.core_entropy.specs.Output.{HasEnded, Wrote}
use Rattle.core_entropy.specs.Part.{AreAtPlaces, HasPlaces, IsPartText, angles_between, part_task}
use Rattle.core_entropy.specs.Status.{IsCalledFor, IsEndOfAnswer}
use Rattle.core_entropy.specs.declared.status.Status.{Status}
use Rattle.core_entropy.specs.declared.status.Status.TheVariants.{Done, Usage}
use Rattle.core_entropy.proofs.Ended.{answered}
use Rattle.core_entropy.proofs.MapTask.{angles_same, item_true, items_solved, some_items}
use Rattle.core_entropy.proofs.Stages.{IsLawful, unless_called, unless_one, unless_some}
use Rattle.core_entropy.proofs.UpgradeTask.{few_angles}

-- The list of an order has places, or it doesn't.
module _ (order from to : ℕ) (list : List Fraction) (all : AreAnglesUpTo order list) where
  pub places_fit : HasPlaces order from to → (from ≤ to) × (to ≤ length list)
  places_fit p =
      let same = one_list order p.angles list p.all all in
      (p.ordered, subst (λ l. to ≤ length l) same p.within)

  abbrev places_here : from ≤ to → to ≤ length list → HasPlaces order from to
  places_here ordered within = record { angles = list; all = all; ordered = ordered; within = within }

  places_or_not : HasPlaces order from to ⊎ (¬ (HasPlaces order from to))
  places_or_not = elim (cases_lt to from) [
    | inl fall ↦ inr (λ p. let ordered = p.ordered in omega (arith, fall, ordered))
    | inr ordered ↦ elim (cases_lt (length list) to) [
      | inl beyond ↦ inr (λ p. let within = (places_fit p).1 in omega (arith, beyond, within))
      | inr within ↦ inl (places_here ordered within)
    ]
  ]

-- The angles at places are of small denominators, and few.
module _ (order from to : ℕ) (angles : List Fraction) (at : AreAtPlaces order from to angles)
    (some : 1 ≤ order) (few : order ≤ 128) where
  abbrev list : List Fraction
  list = at.places.angles

  pub at_small : All (IsAngleUpTo 128) angles
  at_small =
      let wider =
      All-weaker (IsAngleUpTo order) (IsAngleUpTo 128)
      (λ f up. record { angle = up.angle; small = (let small = up.small in omega (arith, small, few)) })
      list at.places.all.angles in
      subst (All (IsAngleUpTo 128)) (sym at.are)
      (All-take (IsAngleUpTo 128) (to - from) (drop from list) (All-drop (IsAngleUpTo 128) from list wider))

  pub at_few : length angles < 2 ^ 32
  at_few =
      let whole = few_angles order list some few at.places.all in
      let cut = length-take (to - from) (drop from list) in
      let left = length-drop from list in
      let same = ap length at.are in
      omega (arith, whole, cut, left, same)

module _ (order from to rounds turns workers exponent : ℕ) (some : 1 ≤ order) (few : order ≤ 128)
    (known : IsExponent exponent) where
  part_true : (input text : List ℕ) → IsPartText order from to rounds turns workers exponent text
      → ClaimsTruly (part_task order from to rounds turns workers exponent) input text
  part_true input text h =
      let claim = solved_claim rounds exponent in
      let each = All-weaker (IsSolvedItem rounds turns workers exponent) (λ item. IsTrueClaim (claim item))
      (item_true rounds turns workers exponent known) h.items h.each in
      (map claim h.items, (h.items, h.spelled, refl), All-map IsTrueClaim claim h.items each)

  pub part_lawful : IsLawful (part_task order from to rounds turns workers exponent)
  part_lawful =
      let Beyond = ¬ (HasPlaces order from to) in
      let Next : Status → Type 0 = λ s. s ≡ Done in
      let all = all_angles order (omega (arith, some)) (omega (arith, few)) in
      let test : Beyond ⊎ (¬ Beyond) = elim (places_or_not order from to _ all) [
        | inl has ↦ inr (λ none. none has)
        | inr none ↦ inl none
      ] in
      record {
        some = λ input. unless_some Beyond Usage Next test (λ has. (Done, refl));
        one = λ input. unless_one Beyond Usage Next (λ s t h k. h ∙ sym k);
        called = λ input. unless_called Beyond Usage Next tt (λ s h. subst IsCalledFor (sym h) tt);
        true = part_true;
      }

-- What is written of angles that are solved, after the header on an empty page.
pub record HasPartText (settings : Settings) (order from to : ℕ) (angles : List Fraction) (of : List ℕ)
    (solutions : List Solved) (start : List ℕ) : Type 0 where
  pub items : List Item
  pub are : AreItemsOf angles of solutions items
  pub is_text : (text : List ℕ) → text ≡ (start ++ flat_map (item_text 2) items) ++ end_line (length angles)
      → IsPartText order from to settings.rounds settings.turns settings.workers settings.scale text

pub part_ready : (settings : Settings) (order from to : ℕ) (angles : List Fraction) (of first : List ℕ)
    (solutions : List Solved) (page start : List ℕ)
    → AreSolvedBy settings angles of first solutions → AreAtPlaces order from to angles → page ≡ []
    → start ≡ page ++ part_line (header_of order settings.scale)
    → HasPartText settings order from to angles of solutions start
part_ready settings order from to angles of first solutions page start solved at empty begun =
    let items = some_items settings angles of first solutions solved in
    let list = items.0 in
    let are = items.1 in
    let h = header_of order settings.scale in
    let texts = flat_map (item_text 2) list in
    let begins : start ≡ part_line h = begun ∙ ap (λ p. p ++ part_line h) empty in
    record {
      items = list;
      are = are;
      is_text = λ text spelled. record {
        places = at.places;
        items = list;
        angles = angles_same settings angles of first solutions solved list are ∙ at.are;
        each = items_solved settings angles of first solutions solved list are;
        spelled = spelled ∙ ap (λ s. (s ++ texts) ++ end_line (length angles)) begins
            ∙ append_assoc (part_line h) texts (end_line (length angles))
            ∙ ap (λ n. part_line h ++ (texts ++ end_line n)) (sym are.each);
      };
    }

-- How a part ended.
module _ (order from to rounds turns workers exponent : ℕ) (angles : List Fraction)
    (at : AreAtPlaces order from to angles) where
  pub part_ended : {O : Type 0} (taken : O → Option (List ℕ)) (faults : O → ℕ) (old now : O) (s : Status)
      → IsEndOfAnswer Done s
      → Wrote taken faults (IsPartText order from to rounds turns workers exponent) s old now
      → HasEnded taken faults (part_task order from to rounds turns workers exponent) [] s old now
  part_ended taken faults old now s end wrote =
      let task = part_task order from to rounds turns workers exponent in
      let calls : CallsFor task [] Done = inr (λ above. above, inr (λ none. none at.places, refl)) in
      answered taken faults task [] Done old now (λ none. none) calls s end wrote

-- The angles at places of the list.
module _ (order from to : ℕ) (list : List Fraction) (all : AreAnglesUpTo order list) where
  pub at_places : from ≤ to → to ≤ length list → (angles : List Fraction) → angles ≡ angles_between from to list
      → AreAtPlaces order from to angles
  at_places ordered within angles are = record { places = places_here order from to list all ordered within; are = are }

  pub beyond_list : ¬ ((from ≤ to) × (to ≤ length list)) → ¬ (HasPlaces order from to)
  beyond_list none has = none (places_fit order from to list all has)
