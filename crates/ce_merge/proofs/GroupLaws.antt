-- What is kept of entries is kept of the items that they stand for.
use Rattle.std.proofs.Common.{◌≡◌, ◌<◌, ◌≤◌, ◌-◌, ℕ, List, [], ◌∷◌, ◌++◌, length, take, drop, get_or, zero, suc, refl}
use Rattle.std.proofs.Common.{sym, ap, subst, ◌∙◌, arith, append_assoc}
use Rattle.std.specs.List.{All, AllZip, Contains}
use Rattle.std.proofs.lemmas.List.Elements.{All-nil, All-cons, All-head, All-tail, All-contains}
use Rattle.std.proofs.lemmas.List.{append-nil}
use Rattle.ce_map.specs.Grammar.{Item, item_text}
use Rattle.ce_merge.specs.Best.{AreKept, HasBoth, HasGreatestLow, HasLeastHigh, IsFirst}
use Rattle.ce_merge.specs.ReadingInside.{IsEntryOf}
use Rattle.ce_merge.specs.WritingInside.{HasHigh, HasLow, IsGroupPut}
use Rattle.ce_merge.specs.declared.entry.Entry.{Entry}
use Rattle.ce_merge.proofs.KeptLaws.{all_by}

module _ (R : Item → Entry → Type 0) where
  -- what is so of entries is so of items
  pub zip_all : (P : Item → Type 0) (Q : Entry → Type 0) → ((i : Item) (e : Entry) → R i e → Q e → P i)
      → (items : List Item) (group : List Entry) → AllZip R items group → All Q group → All P items
  zip_all P Q f [] [] zip all = All-nil P
  zip_all P Q f [] (e ∷ es) zip all = absurd zip
  zip_all P Q f (i ∷ is) [] zip all = absurd zip
  zip_all P Q f (i ∷ is) (e ∷ es) zip all =
      All-cons P i is (f i e zip.0 (All-head Q e es all)) (zip_all P Q f is es zip.1 (All-tail Q e es all))

  pub zip_with : (Q : Entry → Type 0) (items : List Item) (group : List Entry) → AllZip R items group → All Q group
      → AllZip (λ i e. R i e × Q e) items group
  zip_with Q [] [] zip all = zip
  zip_with Q [] (e ∷ es) zip all = absurd zip
  zip_with Q (i ∷ is) [] zip all = absurd zip
  zip_with Q (i ∷ is) (e ∷ es) zip all = ((zip.0, All-head Q e es all), zip_with Q is es zip.1 (All-tail Q e es all))

  -- the item of an entry
  pub zip_item : (items : List Item) (before after : List Entry) (e : Entry) → AllZip R items (before ++ (e ∷ after))
      → (i : Item) × Contains items i × R i e
  zip_item [] [] after e zip = absurd zip
  zip_item [] (b ∷ bs) after e zip = absurd zip
  zip_item (i ∷ is) [] after e zip = (i, (0, omega arith, refl), zip.0)
  zip_item (i ∷ is) (b ∷ bs) after e zip =
      let more = zip_item is bs after e zip.1 in
      (more.0, (suc more.1.0, omega (arith, more.1.1), more.1.2), more.2)

  pub record IsItemFirst (P : Item → Type 0) (items : List Item) (e : Entry) : Type 0 where
    pub item : Item
    pub rel : R item e
    pub first : IsFirst P items item

  pub zip_first : (P : Item → Type 0) (Q : Entry → Type 0) → ((i : Item) (e : Entry) → R i e → Q e → P i)
      → ((i : Item) (e : Entry) → R i e → P i → Q e) → (items : List Item) (before after : List Entry) (e : Entry)
      → AllZip R items (before ++ (e ∷ after)) → All (λ o. ¬ (Q o)) before → Q e → IsItemFirst P items e
  zip_first P Q f g [] [] after e zip none has = absurd zip
  zip_first P Q f g [] (b ∷ bs) after e zip none has = absurd zip
  zip_first P Q f g (i ∷ is) [] after e zip none has =
      record {
        item = i;
        rel = zip.0;
        first =
            record { before = []; after = is; split = refl; has = f i e zip.0 has; none = All-nil (λ o. ¬ (P o)) };
      }
  zip_first P Q f g (i ∷ is) (b ∷ bs) after e zip none has =
      let more = zip_first P Q f g is bs after e zip.1 (All-tail (λ o. ¬ (Q o)) b bs none) has in
      let not : ¬ (P i) = λ p. All-head (λ o. ¬ (Q o)) b bs none (g i b zip.0 p) in
      record {
        item = more.item;
        rel = more.rel;
        first = record {
          before = i ∷ more.first.before;
          after = more.first.after;
          split = ap (λ l. i ∷ l) more.first.split;
          has = more.first.has;
          none = All-cons (λ o. ¬ (P o)) i more.first.before not more.first.none;
        };
      }

module _ (bytes : List ℕ) (items : List Item) (group : List Entry) (zip : AllZip (IsEntryOf bytes) items group)
    (low high : ℕ) (most : All (λ (e : Entry). e.low ≤ low) group) (least : All (λ (e : Entry). high ≤ e.high) group)
    (some_low : (i : Item) × Contains items i × (low ≡ i.evidence.low))
    (some_high : (i : Item) × Contains items i × (high ≡ i.evidence.high)) where
  abbrev Rel : Item → Entry → Type 0
  Rel i e = (IsEntryOf bytes i e × (e.low ≤ low)) × (high ≤ e.high)

  related : AllZip Rel items group
  related = zip_with (λ i e. IsEntryOf bytes i e × (e.low ≤ low)) (λ e. high ≤ e.high) items group
      (zip_with (IsEntryOf bytes) (λ e. e.low ≤ low) items group zip most) least

  all_low : All (λ (i : Item). i.evidence.low ≤ low) items
  all_low = zip_all (IsEntryOf bytes) (λ i. i.evidence.low ≤ low) (λ e. e.low ≤ low)
      (λ i e is h. omega (arith, is.low, h)) items group zip most

  all_high : All (λ (i : Item). high ≤ i.evidence.high) items
  all_high = zip_all (IsEntryOf bytes) (λ i. high ≤ i.evidence.high) (λ e. high ≤ e.high)
      (λ i e is h. omega (arith, is.high, h)) items group zip least

  low_up : (i : Item) (e : Entry) → Rel i e → e.low ≡ low → HasGreatestLow items i
  low_up i e is same = all_by (λ o. o.evidence.low ≤ low) (λ o. o.evidence.low ≤ i.evidence.low) items
      (λ o h. omega (arith, h, same, is.0.0.low)) all_low

  high_up : (i : Item) (e : Entry) → Rel i e → e.high ≡ high → HasLeastHigh items i
  high_up i e is same = all_by (λ o. high ≤ o.evidence.high) (λ o. i.evidence.high ≤ o.evidence.high) items
      (λ o h. omega (arith, h, same, is.0.0.high)) all_high

  low_down : (i : Item) (e : Entry) → Rel i e → HasGreatestLow items i → e.low ≡ low
  low_down i e is h =
      let best : some_low.0.evidence.low ≤ i.evidence.low =
      All-contains (λ o. o.evidence.low ≤ i.evidence.low) items some_low.0 h some_low.1 in
      omega (arith, best, some_low.2, is.0.0.low, is.0.1)

  high_down : (i : Item) (e : Entry) → Rel i e → HasLeastHigh items i → e.high ≡ high
  high_down i e is h =
      let best : i.evidence.high ≤ some_high.0.evidence.high =
      All-contains (λ o. i.evidence.high ≤ o.evidence.high) items some_high.0 h some_high.1 in
      omega (arith, best, some_high.2, is.0.0.high, is.1)

  abbrev BothEnds : Entry → Type 0
  BothEnds e = (e.low ≡ low) × (e.high ≡ high)

  both_up : (i : Item) (e : Entry) → Rel i e → BothEnds e → HasBoth items i
  both_up i e is h = (low_up i e is h.0, high_up i e is h.1)

  both_down : (i : Item) (e : Entry) → Rel i e → HasBoth items i → BothEnds e
  both_down i e is h = (low_down i e is h.0, high_down i e is h.1)

  pub group_one : (e : Entry) → IsFirst BothEnds group e → (i : Item) × IsEntryOf bytes i e × AreKept items (i ∷ [])
  group_one e f =
      let first = zip_first Rel (HasBoth items) BothEnds both_up both_down items f.before f.after e
      (subst (AllZip Rel items) f.split related) f.none f.has in
      (first.item, first.rel.0.0, first.first)

  pub group_two : (e g : Entry) → All (λ o. ¬ (BothEnds o)) group → IsFirst (λ (o : Entry). o.low ≡ low) group e
      → IsFirst (λ (o : Entry). o.high ≡ high) group g
      → (i : Item) × (j : Item) × IsEntryOf bytes i e × IsEntryOf bytes j g × AreKept items (i ∷ (j ∷ []))
  group_two e g none f h =
      let first = zip_first Rel (HasGreatestLow items) (λ o. o.low ≡ low) low_up low_down items f.before f.after e
      (subst (AllZip Rel items) f.split related) f.none f.has in
      let second = zip_first Rel (HasLeastHigh items) (λ o. o.high ≡ high) high_up high_down items h.before h.after g
      (subst (AllZip Rel items) h.split related) h.none h.has in
      let neither : All (λ i. ¬ (HasBoth items i)) items =
      zip_all Rel (λ i. ¬ (HasBoth items i)) (λ e. ¬ (BothEnds e))
      (λ i e is other both. other (both_down i e is both)) items group related none in
      (first.item, second.item, first.rel.0.0, second.rel.0.0, (neither, (first.first, second.first)))

pub zip_has : (R : Item → Entry → Type 0) (items : List Item) (group : List Entry) (k : ℕ) (e : Entry)
    → AllZip R items group → k < length group → get_or group k e ≡ e → (i : Item) × Contains items i × R i e
zip_has R [] [] k e zip less here = absurd (omega arith)
zip_has R [] (g ∷ gs) k e zip less here = absurd zip
zip_has R (i ∷ is) [] k e zip less here = absurd zip
zip_has R (i ∷ is) (g ∷ gs) zero e zip less here = (i, (0, omega arith, refl), subst (R i) here zip.0)
zip_has R (i ∷ is) (g ∷ gs) (suc k) e zip less here =
    let more = zip_has R is gs k e zip.1 (omega arith) here in
    (more.0, (suc more.1.0, omega (arith, more.1.1), more.1.2), more.2)

module _ (bytes : List ℕ) (items : List Item) (group : List Entry) (zip : AllZip (IsEntryOf bytes) items group) where
  pub low_item : (low : ℕ) → HasLow group low → (i : Item) × Contains items i × (low ≡ i.evidence.low)
  low_item low h =
      let found = zip_has (IsEntryOf bytes) items group h.1.0 h.0 zip h.1.1 h.1.2 in
      (found.0, found.1, sym h.2 ∙ found.2.low)

  pub high_item : (high : ℕ) → HasHigh group high → (i : Item) × Contains items i × (high ≡ i.evidence.high)
  high_item high h =
      let found = zip_has (IsEntryOf bytes) items group h.1.0 h.0 zip h.1.1 h.1.2 in
      (found.0, found.1, sym h.2 ∙ found.2.high)

  pub entry_fits : {Q : Entry → Type 0} {e : Entry} → IsFirst Q group e → (e.from ≤ e.to) × (e.to ≤ length bytes)
  entry_fits {Q} {e} f =
      let found = zip_item (IsEntryOf bytes) items f.before f.after e
      (subst (AllZip (IsEntryOf bytes) items) f.split zip) in
      (found.2.order, found.2.within)

  pub put_one : {low high : ℕ} {e : Entry} {before after : List ℕ} → All (λ (o : Entry). o.low ≤ low) group
      → All (λ (o : Entry). high ≤ o.high) group → HasLow group low → HasHigh group high
      → IsFirst (λ (o : Entry). (o.low ≡ low) × (o.high ≡ high)) group e
      → after ≡ before ++ take (e.to - e.from) (drop e.from bytes) → IsGroupPut items before after 1
  put_one {low} {high} {e} {before} {after} most least some_low some_high first put =
      let one = group_one bytes items group zip low high most least (low_item low some_low)
      (high_item high some_high) e first in
      record {
        kept = one.0 ∷ [];
        are_kept = one.2;
        counted = refl;
        written = put ∙ ap (λ l. before ++ l) (one.1.text ∙ sym (append-nil (item_text 2 one.0)));
      }

  pub put_two : {low high : ℕ} {e g : Entry} {before middle after : List ℕ} → All (λ (o : Entry). o.low ≤ low) group
      → All (λ (o : Entry). high ≤ o.high) group → HasLow group low → HasHigh group high
      → All (λ (o : Entry). ¬ ((o.low ≡ low) × (o.high ≡ high))) group → IsFirst (λ (o : Entry). o.low ≡ low) group e
      → IsFirst (λ (o : Entry). o.high ≡ high) group g
      → middle ≡ before ++ take (e.to - e.from) (drop e.from bytes)
      → after ≡ middle ++ take (g.to - g.from) (drop g.from bytes) → IsGroupPut items before after 2
  put_two {low} {high} {e} {g} {before} {middle} {after} most least some_low some_high none first second put more =
      let two = group_two bytes items group zip low high most least (low_item low some_low)
      (high_item high some_high) e g none first second in
      let left = item_text 2 two.0 in
      let right = item_text 2 two.1 in
      record {
        kept = two.0 ∷ (two.1 ∷ []);
        are_kept = two.4;
        counted = refl;
        written =
            more ∙ ap (λ l. middle ++ l) two.3.text ∙ ap (λ l. l ++ right) (put ∙ ap (λ l. before ++ l) two.2.text)
            ∙ append_assoc before left right ∙ ap (λ l. before ++ (left ++ l)) (sym (append-nil right));
      }
