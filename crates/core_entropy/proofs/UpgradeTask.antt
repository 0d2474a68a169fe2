-- The walk over a good map, and its text in version 2.
use Rattle.std.proofs.Common.{◌≡◌, ◌<◌, ◌≤◌, ◌+◌, ◌*◌, ◌++◌, ◌∷◌, ◌∙◌, ℕ, List, [], Option, length}
use Rattle.std.proofs.Common.{get_or, drop, map, sym, ap, subst, arith, append_assoc}
use Rattle.std.specs.List.{flat_map}
use Rattle.std.proofs.Math.Nat.{mul-le-mul_left}
use Rattle.std.proofs.lemmas.List.{drop_more, length-map}
use Rattle.std.proofs.lemmas.List.Elements.{All-head, All-tail}
use Rattle.ce_angle.specs.Farey.{AreAnglesUpTo}
use Rattle.ce_angle.specs.Fraction.{Fraction}
use Rattle.ce_angle.proofs.FareyList.{all_angles, few_fractions}
use Rattle.ce_angle.proofs.OneList.{one_list}
use Rattle.ce_check.specs.GoodMap.{IsGoodMap}
use Rattle.ce_check.specs.Verdicts.{HasGoodMap}
use Rattle.ce_check.specs.declared.verdict.Verdict.TheVariants.{Accepted}
use Rattle.ce_check.proofs.CheckLaws.{same_version}
use Rattle.ce_check.proofs.OneFront.{unfit_no_item}
use Rattle.ce_check.proofs.SomeVerdict.{few_order}
use Rattle.ce_map.specs.Grammar.{Header, IsItem, IsMapOf, Item, end_line, header_line, item_text}
use Rattle.ce_map.specs.Views.{Shows}
use Rattle.ce_map.specs.Walk.{IsHeaderStep, IsItemStep, IsUnfitLine, Walk, left_of, start_of}
use Rattle.ce_map.specs.declared.record_view.RecordView.{RecordView}
use Rattle.ce_map.specs.declared.view.Stage.TheVariants.{Parts, Start}
use Rattle.ce_map.proofs.Unique.{one_header, one_item}
use Rattle.ce_port.specs.Pieces.{GrewAllBut}
use Rattle.ce_port.specs.Sink.{GrewBy}
use Rattle.ce_port.specs.WriteAll.{GrewByPrefix}
use Rattle.core_entropy.specs.Checked.{IsUpgradeAnswer, upgraded}
use Rattle.core_entropy.specs.Output.{GrewByPart}
use Rattle.core_entropy.specs.MapInside.{no_item}
use Rattle.core_entropy.specs.UpgradeInside.{AreLeft, IsAtStart, IsNextItem}
use Rattle.core_entropy.proofs.Paged.{paged_part, paged_rest, paged_stays, paged_whole}

-- the walk
module _ (version : ℕ) (item : Item) (items : List Item) (w : Walk) (are : AreLeft version (item ∷ items) w) where
  item_left : left_of w ≡ item_text version item ++ (flat_map (item_text version) items ++ end_line are.told)
  item_left = are.left ∙ append_assoc (item_text version item) (flat_map (item_text version) items) (end_line are.told)

  item_is : IsItem item
  item_is = All-head IsItem item items are.each

  pub record IsNextOf (view : RecordView) (v : Walk) : Type 0 where
    pub shows : Shows version item view
    pub are_left : AreLeft version items v

  pub next_is : (view : RecordView) (v : Walk) → IsItemStep w view v → IsNextOf view v
  next_is view v s =
      let same = same_version s.version version (sym s.expected ∙ are.expects) in
      let text : item_text version s.item ++ left_of v ≡ item_text version item
      ++ (flat_map (item_text version) items ++ end_line are.told) =
      ap (λ u. item_text u s.item ++ left_of v) (sym same) ∙ sym s.spelled ∙ item_left in
      let one = one_item version s.item item (left_of v) _ s.is_item item_is text in
      record {
        shows = subst (λ i. Shows version i view) one.item (subst (λ u. Shows u s.item view) same s.shown);
        are_left = record {
          each = All-tail IsItem item items are.each;
          expects = ap (λ u. u.stage) s.after ∙ ap Parts same;
          told = are.told;
          left = one.rest;
        };
      }

pub no_form_next : (w : Walk) (line : ℕ) → IsNextItem w → IsUnfitLine w w.stage line → ⊥
no_form_next w line next unfit =
    let are = next.are_left in
    let at : IsUnfitLine w (Parts next.version) line = subst (λ s. IsUnfitLine w s line) are.expects unfit in
    unfit_no_item next.version (left_of w) at.0 at.1 next.item _ (item_is next.version next.item next.items w are)
    (item_left next.version next.item next.items w are)

-- a map at its start
module _ (bytes : List ℕ) (h : Header) (items : List Item) (count : ℕ) (spelled : IsMapOf bytes h items count) where
  map_left : bytes ≡ header_line h ++ (flat_map (item_text h.version) items ++ end_line count)
  map_left = spelled.spelled ∙ append_assoc (header_line h) (flat_map (item_text h.version) items) (end_line count)

  pub record IsHeaderOf (g : Header) (v : Walk) : Type 0 where
    pub same : g ≡ h
    pub are_left : AreLeft h.version items v

  pub header_is : (w v : Walk) (g : Header) → w ≡ start_of bytes → IsHeaderStep w g v → IsHeaderOf g v
  header_is w v g starts s =
      let whole : bytes ≡ header_line g ++ left_of v = ap (λ u. left_of u) (sym starts) ∙ s.spelled in
      let one = one_header g h (left_of v) _ s.header spelled.header (sym whole ∙ map_left) in
      record {
        same = one.header;
        are_left = record {
          each = spelled.each;
          expects = ap (λ u. u.stage) s.after ∙ ap (λ k. Parts k.version) one.header;
          told = count;
          left = one.rest;
        };
      }

pub no_form_first : (w : Walk) (line : ℕ) → IsAtStart w → IsUnfitLine w w.stage line → ⊥
no_form_first w line start unfit =
    let at : IsUnfitLine (start_of start.bytes) Start line =
    subst (λ u. IsUnfitLine u u.stage line) start.starts unfit in
    at.0 start.header _ start.spelled.header (map_left start.bytes start.header start.items start.count start.spelled)

-- one item after another
module _ (version : ℕ) (items : List Item) (i : ℕ) (within : i < length items) (w : Walk) where
  pub first_left : AreLeft version (drop i items) w → AreLeft version (get_or items i no_item ∷ drop (i + 1) items) w
  first_left are = subst (λ l. AreLeft version l w) (drop_more items i no_item within) are

-- There are few angles up to an order, and few items in a good map.
pub few_angles : (order : ℕ) (angles : List Fraction) → 1 ≤ order → order ≤ 128
    → AreAnglesUpTo order angles → length angles ≤ 16384
few_angles order angles first few are =
    let same = one_list order _ _ are (all_angles order (omega (arith, first)) (omega (arith, few))) in
    let long = few_fractions order (order * order) _ _ in
    let count : length angles ≤ order * order = rw same long in
    let once : order * order ≤ order * 128 = mul-le-mul_left order few in
    omega (arith, count, once, few)

pub few_items : (bytes : List ℕ) (h : Header) (items : List Item) → IsGoodMap bytes h items → length items ≤ 16384
few_items bytes h items good =
    let few = few_angles h.order (map (λ item. item.angle) items) good.spelled.header.some
    (few_order h good.spelled.header) good.angles in
    omega (arith, few, length-map items (λ (item : Item). item.angle))

-- What was written of a good map.
module _ (bytes : List ℕ) (h : Header) (items : List Item) (count : ℕ) (spelled : IsMapOf bytes h items count) where
  abbrev Answer : List ℕ → Type 0
  Answer = IsUpgradeAnswer bytes (Accepted count)

  abbrev all_items : List ℕ
  all_items = flat_map (item_text 2) items

  module _ (start : List ℕ) (begins : start ≡ header_line (upgraded h)) where
    answers : Answer ((start ++ all_items) ++ end_line count)
    answers = (h, items, spelled, ap (λ s. (s ++ all_items) ++ end_line count) begins)

    pub upgraded_part : (a b : Option (List ℕ)) → GrewByPrefix a b (start ++ all_items) → GrewByPart Answer a b
    upgraded_part = paged_part Answer start all_items (end_line count) answers

    module _ (a b : Option (List ℕ)) (page : List ℕ) (grew : GrewAllBut a b page (start ++ all_items)) where
      pub upgraded_stays : GrewByPart Answer a b
      upgraded_stays = paged_stays Answer start all_items (end_line count) answers a b page grew

      module _ (c : Option (List ℕ)) (more : List ℕ) (put : more ≡ page ++ end_line count) where
        pub upgraded_rest : GrewByPrefix b c more → GrewByPart Answer a c
        upgraded_rest = paged_rest Answer start all_items (end_line count) answers a b page grew c more put

        pub upgraded_whole : GrewBy b c more → (text : List ℕ) × Answer text × GrewBy a c text
        upgraded_whole = paged_whole Answer start all_items (end_line count) answers a b page grew c more put

-- The header of version 2 on an empty page.
pub header_begins : (h : Header) (page start : List ℕ) (order exponent : ℕ) → page ≡ []
    → start ≡ page ++ header_line (record { version = 2; order = order; exponent = exponent }) → order ≡ h.order
    → exponent ≡ h.exponent → start ≡ header_line (upgraded h)
header_begins h page start order exponent empty begun same also =
    begun ∙ ap (λ p. p ++ header_line (record { version = 2; order = order; exponent = exponent })) empty
    ∙ ap (λ n. header_line (record { version = 2; order = n; exponent = exponent })) same
    ∙ ap (λ n. header_line (record { version = 2; order = h.order; exponent = n })) also

pub spelled_as : (bytes : List ℕ) (count : ℕ) (good : HasGoodMap bytes count)
    → IsMapOf bytes good.header good.items count
spelled_as bytes count good = subst (IsMapOf bytes good.header good.items) (sym good.counted) good.good.spelled
