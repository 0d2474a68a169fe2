-- Parts are read in one way: good items and good parts at the front of a text are the same, wherever they stop.
use Rattle.std.proofs.Common.{◌≡◌, ℕ, List, [], ◌∷◌, ◌++◌, length, get_or}
use Rattle.std.proofs.Common.{refl, sym, ap, subst, ◌∙◌, arith, append_assoc, length-append}
use Rattle.std.specs.List.{All, Contains, flat_map}
use Rattle.std.proofs.lemmas.List.{append-nil, append_cancel_left, get_or_append_left}
use Rattle.std.proofs.lemmas.List.Elements.{All-contains, All-head, All-tail, Contains-append_right}
use Rattle.std.proofs.Math.Seq.{get_or-append_seam}
use Rattle.ce_angle.specs.Farey.{IsAngleUpTo}
use Rattle.ce_angle.specs.Order.{IsBelow}
use Rattle.ce_cert.specs.declared.certificate.Flaw.TheVariants as flaw
use Rattle.ce_check.specs.GoodMap.{IsCertified}
use Rattle.ce_check.proofs.OneFront.{no_flaw, unfit_no_item}
use Rattle.ce_map.specs.Fits.{IsUnfit}
use Rattle.ce_map.specs.Grammar.{Header, Item, IsItem, item_text, end_line}
use Rattle.ce_map.specs.PartGrammar.{IsPartHeader, part_line, LacksPart}
use Rattle.ce_map.proofs.PartLaws.{one_part}
use Rattle.ce_map.proofs.Unique.{one_item, one_end, no_end}
use Rattle.ce_merge.specs.Flaws.{BeginsOtherwise, IsItemCause, MayFollow}
use Rattle.ce_merge.specs.Parts.{AreGoodItems, IsGoodPart, whole_part}
use Rattle.ce_merge.proofs.PartTexts.{texts}
use Rattle.ce_merge.specs.declared.merged.MergeCause.{MergeCause}
use Rattle.ce_merge.specs.declared.merged.MergeCause.TheVariants.{Form, Header as OtherHeader, Order, Length, Rank}
use Rattle.ce_merge.specs.declared.merged.MergeCause.TheVariants.{Entry, Low, High, Count}

-- An item may be the next one of good items.
pub record IsGoodNext (h : Header) (items : List Item) (item : Item) : Type 0 where
  pub is : IsItem item
  pub may : MayFollow h.order items item.angle
  pub certified : IsCertified h.exponent item

-- No such item stands next.
abbrev pub IsItemsEnd : Header → List Item → List ℕ → Type 0
IsItemsEnd h items rest =
    (item : Item) (after : List ℕ) → IsGoodNext h items item → rest ≡ item_text 2 item ++ after → ⊥

pub record AreSame {X : Type 0} (xs ys : List X) (rest tail : List ℕ) : Type 0 where
  pub list : xs ≡ ys
  pub text : rest ≡ tail

module _ (h : Header) where
  next_item : (before : List Item) (x : Item) (xs : List Item) → AreGoodItems h (before ++ (x ∷ xs))
      → IsGoodNext h before x
  next_item before x xs good =
      let has : Contains (before ++ (x ∷ xs)) x = Contains-append_right before (x ∷ xs) x (0, omega arith, refl) in
      let many = length-append before (x ∷ xs) in
      record {
        is = All-contains IsItem (before ++ (x ∷ xs)) x good.each has;
        may = record {
          up = All-contains (λ item. IsAngleUpTo h.order item.angle) (before ++ (x ∷ xs)) x good.angles has;
          after = λ k d less.
              subst (λ i. ¬ (IsBelow x.angle i.angle)) (get_or_append_left before (x ∷ xs) d k less)
              (subst (λ j. ¬ (IsBelow j.angle (get_or (before ++ (x ∷ xs)) k d).angle))
              (get_or-append_seam before x xs d)
              (good.order k (length before) d less (omega (arith, many))));
        };
        certified = All-contains (IsCertified h.exponent) (before ++ (x ∷ xs)) x good.certified has;
      }

  moved_on : (before : List Item) (x : Item) (xs : List Item) → (before ++ (x ∷ [])) ++ xs ≡ before ++ (x ∷ xs)
  moved_on before x xs = append_assoc before (x ∷ []) xs

  more_text : (x : Item) (xs : List Item) (rest : List ℕ) → texts (x ∷ xs) ++ rest ≡ item_text 2 x ++ (texts xs ++ rest)
  more_text x xs rest = append_assoc (item_text 2 x) (texts xs) rest

  one_rest : (before xs ys : List Item) (rest tail : List ℕ) → AreGoodItems h (before ++ xs)
      → AreGoodItems h (before ++ ys)
      → texts xs ++ rest ≡ texts ys ++ tail → IsItemsEnd h (before ++ xs) rest → IsItemsEnd h (before ++ ys) tail
      → AreSame xs ys rest tail
  one_rest before [] [] rest tail gx gy text s t = record { list = refl; text = text }
  one_rest before [] (y ∷ ys) rest tail gx gy text s t =
      let stop = subst (λ l. IsItemsEnd h l rest) (append-nil before) s in
      absurd (stop y (texts ys ++ tail) (next_item before y ys gy) (text ∙ more_text y ys tail))
  one_rest before (x ∷ xs) [] rest tail gx gy text s t =
      let stop = subst (λ l. IsItemsEnd h l tail) (append-nil before) t in
      absurd (stop x (texts xs ++ rest) (next_item before x xs gx) (sym text ∙ more_text x xs rest))
  one_rest before (x ∷ xs) (y ∷ ys) rest tail gx gy text s t =
      let nx = next_item before x xs gx in
      let ny = next_item before y ys gy in
      let first = one_item 2 x y (texts xs ++ rest) (texts ys ++ tail) nx.is ny.is
      (sym (more_text x xs rest) ∙ text ∙ more_text y ys tail) in
      let same : before ++ (y ∷ ys) ≡ (before ++ (x ∷ [])) ++ ys =
      ap (λ z. before ++ (z ∷ ys)) (sym first.item) ∙ sym (moved_on before x ys) in
      let more = one_rest (before ++ (x ∷ [])) xs ys rest tail
      (subst (AreGoodItems h) (sym (moved_on before x xs)) gx) (subst (AreGoodItems h) same gy) first.rest
      (subst (λ l. IsItemsEnd h l rest) (sym (moved_on before x xs)) s) (subst (λ l. IsItemsEnd h l tail) same t) in
      record { list = ap (λ z. z ∷ xs) first.item ∙ ap (λ l. y ∷ l) more.list; text = more.text }

  pub one_items : (xs ys : List Item) (rest tail : List ℕ) → AreGoodItems h xs → AreGoodItems h ys
      → texts xs ++ rest ≡ texts ys ++ tail → IsItemsEnd h xs rest → IsItemsEnd h ys tail → AreSame xs ys rest tail
  one_items xs ys rest tail gx gy text s t = one_rest [] xs ys rest tail gx gy text s t

  -- where items end
  pub end_ends : (items : List Item) (count : ℕ) (after rest : List ℕ) → rest ≡ end_line count ++ after
      → IsItemsEnd h items rest
  end_ends items count after rest same item tail next is = no_end 2 count item tail after (sym is ∙ same)

  pub unfit_ends : (items : List Item) (rest : List ℕ) (lines : ℕ) → IsUnfit 2 rest lines → IsItemsEnd h items rest
  unfit_ends items rest lines unfit item after next same = unfit_no_item 2 rest lines unfit item after next.is same

  no_cause : (items : List Item) (item : Item) (cause : MergeCause) → IsItemCause h.order h.exponent items item cause
      → IsGoodNext h items item → ⊥
  no_cause items item Order wrong next = wrong next.may
  no_cause items item Length wrong next = no_flaw h.exponent item flaw.Length wrong.1 next.certified
  no_cause items item Rank wrong next = no_flaw h.exponent item flaw.Rank wrong.1 next.certified
  no_cause items item Entry wrong next = no_flaw h.exponent item flaw.Entry wrong.1 next.certified
  no_cause items item Low wrong next = no_flaw h.exponent item flaw.Low wrong.1 next.certified
  no_cause items item High wrong next = no_flaw h.exponent item flaw.High wrong.1 next.certified
  no_cause items item Form wrong next = wrong
  no_cause items item OtherHeader wrong next = wrong
  no_cause items item Count wrong next = wrong

  pub item_ends : (items : List Item) (item : Item) (after rest : List ℕ) (cause : MergeCause) → IsItem item
      → IsItemCause h.order h.exponent items item cause → rest ≡ item_text 2 item ++ after → IsItemsEnd h items rest
  item_ends items item after rest cause is wrong same other tail next also =
      let one = (one_item 2 other item tail after next.is is (sym also ∙ same)).item in
      no_cause items item cause wrong (subst (IsGoodNext h items) one next)

  -- No good part stands next.
  abbrev pub IsPartsEnd : List ℕ → Type 0
  IsPartsEnd rest = (items : List Item) (after : List ℕ) → IsGoodPart h items → rest ≡ whole_part h items ++ after → ⊥

  pub part_cut : (items : List Item) (after : List ℕ)
      → whole_part h items ++ after ≡ part_line h ++ (texts items ++ (end_line (length items) ++ after))
  part_cut items after =
      append_assoc (part_line h) (texts items ++ end_line (length items)) after
      ∙ ap (λ l. part_line h ++ l) (append_assoc (texts items) (end_line (length items)) after)

  one_good_part : (xs ys : List Item) (rest tail : List ℕ) → IsGoodPart h xs → IsGoodPart h ys
      → whole_part h xs ++ rest ≡ whole_part h ys ++ tail → AreSame xs ys rest tail
  one_good_part xs ys rest tail gx gy same =
      let end_x = end_line (length xs) ++ rest in
      let end_y = end_line (length ys) ++ tail in
      let text = append_cancel_left (part_line h) (texts xs ++ end_x) (texts ys ++ end_y)
      (sym (part_cut xs rest) ∙ same ∙ part_cut ys tail) in
      let items = one_items xs ys end_x end_y gx.good gy.good text (end_ends xs (length xs) rest end_x refl)
      (end_ends ys (length ys) tail end_y refl) in
      record {
        list = items.list;
        text = (one_end (length xs) (length ys) rest tail gx.number gy.number items.text).rest;
      }

  abbrev wholes : List (List Item) → List ℕ
  wholes parts = flat_map (whole_part h) parts

  more_whole : (x : List Item) (xs : List (List Item)) (rest : List ℕ)
      → wholes (x ∷ xs) ++ rest ≡ whole_part h x ++ (wholes xs ++ rest)
  more_whole x xs rest = append_assoc (whole_part h x) (wholes xs) rest

  pub one_parts : (xs ys : List (List Item)) (rest tail : List ℕ) → All (IsGoodPart h) xs → All (IsGoodPart h) ys
      → wholes xs ++ rest ≡ wholes ys ++ tail → IsPartsEnd rest → IsPartsEnd tail → AreSame xs ys rest tail
  one_parts [] [] rest tail gx gy text s t = record { list = refl; text = text }
  one_parts [] (y ∷ ys) rest tail gx gy text s t =
      absurd (s y (wholes ys ++ tail) (All-head (IsGoodPart h) y ys gy) (text ∙ more_whole y ys tail))
  one_parts (x ∷ xs) [] rest tail gx gy text s t =
      absurd (t x (wholes xs ++ rest) (All-head (IsGoodPart h) x xs gx) (sym text ∙ more_whole x xs rest))
  one_parts (x ∷ xs) (y ∷ ys) rest tail gx gy text s t =
      let first = one_good_part x y (wholes xs ++ rest) (wholes ys ++ tail) (All-head (IsGoodPart h) x xs gx)
      (All-head (IsGoodPart h) y ys gy)
      (sym (more_whole x xs rest) ∙ text ∙ more_whole y ys tail) in
      let more = one_parts xs ys rest tail (All-tail (IsGoodPart h) x xs gx) (All-tail (IsGoodPart h) y ys gy)
      first.text s t in
      record { list = ap (λ z. z ∷ xs) first.list ∙ ap (λ l. y ∷ l) more.list; text = more.text }

  -- where parts end
  whole_begins : (rest : List ℕ) (items : List Item) (after : List ℕ) → rest ≡ whole_part h items ++ after
      → rest ≡ part_line h ++ (texts items ++ (end_line (length items) ++ after))
  whole_begins rest items after same = same ∙ part_cut items after

  pub nothing_ends : (rest : List ℕ) → rest ≡ [] → IsPartsEnd rest
  nothing_ends rest none items after good same =
      let long = length-append (part_line h) (texts items ++ (end_line (length items) ++ after)) in
      omega (arith, ap length (sym none ∙ whole_begins rest items after same), long)

  pub lack_ends : IsPartHeader h → (rest : List ℕ) → LacksPart rest → IsPartsEnd rest
  lack_ends is rest lacks items after good same = lacks h _ is (whole_begins rest items after same)

  pub other_ends : IsPartHeader h → (rest : List ℕ) → BeginsOtherwise h rest → IsPartsEnd rest
  other_ends is rest begins items after good same =
      begins.differs
      (one_part begins.other h begins.after _ begins.is_header is
      (sym begins.spelled ∙ whole_begins rest items after same)).header

  pub inside_ends : (items : List Item) (inside rest : List ℕ) → AreGoodItems h items → IsItemsEnd h items inside
      → ((after : List ℕ) → IsGoodPart h items → inside ≡ end_line (length items) ++ after → ⊥)
      → rest ≡ part_line h ++ (texts items ++ inside) → IsPartsEnd rest
  inside_ends items inside rest good stop unfinished same others after whole also =
      let end = end_line (length others) ++ after in
      let text = append_cancel_left (part_line h) (texts items ++ inside) (texts others ++ end)
      (sym same ∙ whole_begins rest others after also) in
      let one = one_items items others inside end good whole.good text stop
      (end_ends others (length others) after end refl) in
      let part = subst (IsGoodPart h) (sym one.list) whole in
      unfinished after part (one.text ∙ ap (λ l. end_line (length l) ++ after) (sym one.list))
