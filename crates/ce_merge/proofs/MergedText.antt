-- The merged part is a good part, and its own merge.
use Rattle.std.proofs.Common.{◌≡◌, ◌<◌, ◌≤◌, ℕ, zero, suc, List, [], ◌∷◌, ◌++◌, length, get_or}
use Rattle.std.proofs.Common.{sym, ap, subst, ◌∙◌, arith}
use Rattle.std.specs.Prelude.{◌↔◌}
use Rattle.std.specs.List.{All, AllPairs, AllZip, Contains}
use Rattle.std.proofs.lemmas.List.{append-nil}
use Rattle.std.proofs.lemmas.List.Elements.{All-append, All-cons, All-contains, All-contains_itself, All-head}
use Rattle.std.proofs.lemmas.List.Elements.{All-nil, All-tail}
use Rattle.std.proofs.lemmas.List.Elements.{Contains-append_left, Contains-append_right}
use Rattle.std.proofs.lemmas.List.Kept.{AllPairs-cons}
use Rattle.ce_angle.specs.Farey.{IsAngleUpTo}
use Rattle.ce_angle.specs.Fraction.{Fraction}
use Rattle.ce_angle.specs.Order.{IsBelow}
use Rattle.ce_angle.proofs.OneList.{rest_above, rest_rising}
use Rattle.ce_check.specs.GoodMap.{IsCertified}
use Rattle.ce_check.proofs.OrbitRows.{certified_encloses, exponent_of}
use Rattle.ce_map.specs.Digits.{IsNumber}
use Rattle.ce_map.specs.Grammar.{Header, Item, IsItem, item_text, most_order}
use Rattle.ce_map.specs.PartGrammar.{part_text}
use Rattle.ce_orbit.specs.Orbit.{ForwardOrbit, IsForwardOrbit}
use Rattle.ce_rows.specs.Growth.{Encloses, IsGrowthLowerBound, IsGrowthUpperBound}
use Rattle.ce_thurston.specs.Pairs.{pair_walks}
use Rattle.ce_merge.specs.Best.{AreKept, HaveSame, IsBest, IsMerged, all_of, items_at}
use Rattle.ce_merge.specs.Merges.{IsBestOf, IsMergeOf, IsSlice}
use Rattle.ce_merge.specs.Parts.{AreGoodItems, AreGoodParts, IsGoodPart, NeverFall, whole_part}
use Rattle.ce_merge.proofs.FewAngles.{groups_few, rising_few}
use Rattle.ce_merge.proofs.KeptLaws.{all_by}
use Rattle.ce_merge.proofs.MergeLaws.{angle_item, are_at, at_in, back_same, best_items, groups_at, group_at}
use Rattle.ce_merge.proofs.MergeLaws.{merged_again, merged_best}
use Rattle.ce_merge.proofs.MergeLaws.{merged_within, one_merge}
use Rattle.ce_merge.proofs.OneAnswer.{one_good}
use Rattle.ce_merge.proofs.Pieces.{item_slice}
use Rattle.ce_merge.proofs.WholeMerge.{all_parts, angles_up}

-- Items that are grouped by rising angles never fall.
abbrev MayStandBefore : Item → Item → Type 0
MayStandBefore i j = ¬ (IsBelow j.angle i.angle)

falls_on : (f : Fraction) (group rest : List Item) → All (λ i. i.angle ≡ f) group
    → All (λ j. ¬ (IsBelow j.angle f)) rest → NeverFall rest → NeverFall (group ++ rest)
falls_on f [] rest at above never = never
falls_on f (x ∷ xs) rest at above never =
    let here : x.angle ≡ f = All-head (λ i. i.angle ≡ f) x xs at in
    let more = All-tail (λ i. i.angle ≡ f) x xs at in
    let same : All (MayStandBefore x) xs =
    all_by (λ i. i.angle ≡ f) (MayStandBefore x) xs (λ i there. level x.angle i.angle (there ∙ sym here)) more in
    let later : All (MayStandBefore x) rest =
    all_by (λ j. ¬ (IsBelow j.angle f)) (MayStandBefore x) rest
    (λ j not. subst (λ g. ¬ (IsBelow j.angle g)) (sym here) not) above in
    AllPairs-cons MayStandBefore x (xs ++ rest) (All-append (MayStandBefore x) xs rest same later)
    (falls_on f xs rest more above never)
  where
    level : (f g : Fraction) → g ≡ f → ¬ (IsBelow g f)
    level f g e below = let self : IsBelow f f = subst (λ a. IsBelow a f) e below in omega (arith, self)

groups_never_fall : (items : List Item) (fs : List Fraction) (gs : List (List Item)) → AllPairs IsBelow fs
    → AllZip (λ f group. AreKept (items_at f items) group) fs gs → NeverFall (all_of gs)
groups_never_fall items [] [] rising zip = λ i j d order within. absurd (omega arith)
groups_never_fall items [] (g ∷ gs) rising zip = absurd zip
groups_never_fall items (f ∷ fs) [] rising zip = absurd zip
groups_never_fall items (f ∷ fs) (g ∷ gs) rising zip =
    let rest = all_of gs in
    let above : All (λ j. ¬ (IsBelow j.angle f)) rest =
    all_by (λ i. Contains fs i.angle) (λ j. ¬ (IsBelow j.angle f)) rest
    (λ j has below. let up : IsBelow f j.angle = rest_above f j.angle fs rising has in omega (arith, up, below))
    (groups_at items fs gs zip.1) in
    falls_on f g rest (group_at items f g zip.0) above (groups_never_fall items fs gs (rest_rising f fs rising) zip.1)

module _ (bytes text : List ℕ) (m : IsMergeOf bytes text) where
  abbrev head : Header
  head = m.header

  abbrev items : List Item
  items = all_of m.parts

  within : All (Contains items) m.kept
  within = merged_within items m.kept m.merged

  -- what is so of all items is so of those that are kept
  of_kept : (P : Item → Type 0) → All P items → All P m.kept
  of_kept P all = all_by (Contains items) P m.kept (λ i has. All-contains P items i all has) within

  kept_good : AreGoodItems head m.kept
  kept_good = record {
    each = of_kept IsItem (all_parts IsItem (IsGoodPart head) (λ list part. part.good.each) m.parts m.good.good);
    angles = of_kept (λ i. IsAngleUpTo head.order i.angle) (angles_up head m.parts m.good.good);
    certified = of_kept (IsCertified head.exponent)
        (all_parts (IsCertified head.exponent) (IsGoodPart head) (λ list part. part.good.certified) m.parts
        m.good.good);
    order = subst NeverFall (sym m.merged.joined)
        (groups_never_fall items m.merged.angles m.merged.groups m.merged.rising m.merged.each);
  }

  order_few : head.order ≤ 128
  order_few = subst (λ v. head.order ≤ most_order v) m.good.header.second m.good.header.header.few

  angle_up : (f : Fraction) → Contains m.merged.angles f → IsAngleUpTo head.order f
  angle_up f has =
      let of = angle_item items m.kept m.merged f has in
      subst (IsAngleUpTo head.order) of.2
      (All-contains (λ (item : Item). IsAngleUpTo head.order item.angle) items of.0
      (angles_up head m.parts m.good.good) of.1)

  angles_are : All (IsAngleUpTo head.order) m.merged.angles
  angles_are = all_by (Contains m.merged.angles) (IsAngleUpTo head.order) m.merged.angles angle_up
      (All-contains_itself m.merged.angles)

  kept_number : IsNumber (length m.kept)
  kept_number =
      let angles = rising_few head.order order_few m.merged.angles m.merged.rising angles_are in
      let groups = groups_few items m.merged.angles m.merged.groups m.merged.each in
      omega (arith, angles, groups, ap length m.merged.joined)

  pub text_good : AreGoodParts text head (m.kept ∷ [])
  text_good = record {
    header = m.good.header;
    some = λ none. omega (arith, ap length none);
    spelled = m.written ∙ sym (append-nil (whole_part head m.kept));
    good = All-cons (IsGoodPart head) m.kept [] (record { good = kept_good; number = kept_number })
        (All-nil (IsGoodPart head));
  }

  kept_all : all_of (m.kept ∷ []) ≡ m.kept
  kept_all = append-nil m.kept

  pub merge_again : IsMergeOf text text
  merge_again = record {
    header = head;
    parts = m.kept ∷ [];
    kept = m.kept;
    good = text_good;
    merged = subst (λ l. IsMerged l m.kept) (sym kept_all) (merged_again items m.kept m.merged);
    written = m.written;
  }

  pub kept_slices : All (λ item. IsSlice bytes (item_text 2 item)) m.kept
  kept_slices = all_by (Contains items) (λ item. IsSlice bytes (item_text 2 item)) m.kept
      (λ i has. subst (λ b. IsSlice b (item_text 2 i)) (sym m.good.spelled) (item_slice head m.parts i has)) within

  pub best_same : (f : Fraction) (low high : ℕ) → IsBestOf bytes f low high ↔ IsBestOf text f low high
  best_same f low high = (there, back)
    where
      there : IsBestOf bytes f low high → IsBestOf text f low high
      there b =
          let parts = (one_good bytes b.header head b.parts m.parts b.good m.good).1 in
          let best = subst (λ ps. IsBest (items_at f (all_of ps)) low high) parts b.best in
          let after = (merged_best items m.kept m.merged f low high).0 best in
          record {
            header = head;
            parts = m.kept ∷ [];
            good = text_good;
            best = subst (λ l. IsBest (items_at f l) low high) (sym kept_all) after;
          }

      back : IsBestOf text f low high → IsBestOf bytes f low high
      back b =
          let parts = (one_good text b.header head b.parts (m.kept ∷ []) b.good text_good).1 in
          let best = subst (λ ps. IsBest (items_at f (all_of ps)) low high) parts b.best in
          let kept = subst (λ l. IsBest (items_at f l) low high) kept_all best in
          record {
            header = head;
            parts = m.parts;
            good = m.good;
            best = (merged_best items m.kept m.merged f low high).1 kept;
          }

pub one_text : (bytes text other : List ℕ) → IsMergeOf bytes text → IsMergeOf bytes other → text ≡ other
one_text bytes text other m n =
    let one = one_good bytes n.header m.header n.parts m.parts n.good m.good in
    let merged = subst (λ ps. IsMerged (all_of ps) n.kept) one.1 n.merged in
    let kept = one_merge (all_of m.parts) m.kept n.kept m.merged merged in
    m.written ∙ ap (λ k. part_text m.header k (length k)) kept
    ∙ ap (λ h. part_text h n.kept (length n.kept)) (sym one.0) ∙ sym n.written

-- The order and the repetition of parts.
in_all : (parts : List (List Item)) (k : ℕ) (part : List Item) (i : Item) → k < length parts
    → get_or parts k part ≡ part
    → Contains part i → Contains (all_of parts) i
in_all [] k part i less here has = absurd (omega arith)
in_all (x ∷ xs) zero part i less here has =
    Contains-append_left x (all_of xs) i (subst (λ l. Contains l i) (sym here) has)
in_all (x ∷ xs) (suc k) part i less here has =
    Contains-append_right x (all_of xs) i (in_all xs k part i (omega arith) here has)

items_within : (xs ys : List (List Item)) → All (Contains ys) xs → All (Contains (all_of ys)) (all_of xs)
items_within xs ys all =
    all_parts (Contains (all_of ys)) (Contains ys)
    (λ part has. all_by (Contains part) (Contains (all_of ys)) part
    (λ i inside. in_all ys has.0 part i has.1 has.2 inside) (All-contains_itself part))
    xs all

pub same_best_of : (x y t u : List ℕ) (h : Header) (xs ys : List (List Item)) (f : Fraction) (low high : ℕ)
    → AreGoodParts x h xs → AreGoodParts y h ys → HaveSame xs ys → IsMergeOf x t → IsMergeOf y u
    → IsBestOf t f low high ↔ IsBestOf u f low high
same_best_of x y t u h xs ys f low high gx gy same m n =
    let items : HaveSame (all_of xs) (all_of ys) =
    record { there = items_within xs ys same.there; back = items_within ys xs same.back } in
    let across = best_across items in
    let left = best_same x t m f low high in
    let right = best_same y u n f low high in
    (λ b. right.0 (across.0 (left.1 b)), λ b. left.0 (across.1 (right.1 b)))
  where
    moved : (v w : List ℕ) (vs ws : List (List Item)) → AreGoodParts v h vs → AreGoodParts w h ws
        → HaveSame (all_of vs) (all_of ws)
        → IsBestOf v f low high → IsBestOf w f low high
    moved v w vs ws gv gw alike b =
        let parts = (one_good v b.header h b.parts vs b.good gv).1 in
        let best = subst (λ ps. IsBest (items_at f (all_of ps)) low high) parts b.best in
        record { header = h; parts = ws; good = gw; best = best_items f (all_of vs) (all_of ws) low high alike best }

    best_across : HaveSame (all_of xs) (all_of ys) → IsBestOf x f low high ↔ IsBestOf y f low high
    best_across alike = (moved x y xs ys gx gy alike, moved y x ys xs gy gx (back_same (all_of xs) (all_of ys) alike))

-- The best interval encloses, since both its ends are certified.
pub best_encloses : (bytes : List ℕ) (f : Fraction) (low high : ℕ) (b : IsBestOf bytes f low high) (o : ForwardOrbit)
    → IsForwardOrbit o → o.angle ≡ f → Encloses b.header.exponent (pair_walks o) low high
best_encloses bytes f low high b o is of =
    let left = encloses b.best.from_low b.best.in_low in
    let right = encloses b.best.from_high b.best.in_high in
    record {
      below = subst (λ n. IsGrowthLowerBound b.header.exponent (pair_walks o) n) (sym b.best.is_low) left.below;
      above = subst (λ n. IsGrowthUpperBound b.header.exponent (pair_walks o) n) (sym b.best.is_high) right.above;
    }
  where
    certified : All (IsCertified b.header.exponent) (all_of b.parts)
    certified = all_parts (IsCertified b.header.exponent) (IsGoodPart b.header) (λ list part. part.good.certified)
        b.parts b.good.good

    encloses : (i : Item) → Contains (items_at f (all_of b.parts)) i
        → Encloses b.header.exponent (pair_walks o) i.evidence.low i.evidence.high
    encloses i has =
        let here = All-contains (Contains (all_of b.parts)) (items_at f (all_of b.parts)) i
        (at_in f (all_of b.parts)) has in
        let at = All-contains (λ j. j.angle ≡ f) (items_at f (all_of b.parts)) i (are_at f (all_of b.parts)) has in
        certified_encloses b.header.exponent i o (exponent_of b.header b.good.header.header)
        (All-contains (IsCertified b.header.exponent) (all_of b.parts) i certified here) is (of ∙ sym at)
