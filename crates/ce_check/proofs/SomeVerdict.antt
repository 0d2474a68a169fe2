-- Each text has a verdict.
use Rattle.std.proofs.Common.{◌≡◌, ◌≢◌, ◌<◌, ◌≤◌, ◌+◌, ◌*◌, ◌⊎◌, ◌∙◌, inl, inr, ℕ, zero, suc, List, [], ◌∷◌, ◌++◌}
use Rattle.std.proofs.Common.{length, map, refl, sym, ap, subst, arith, append_assoc, length-append}
use Rattle.std.specs.Prelude.{Contains}
use Rattle.std.specs.List.{All, flat_map}
use Rattle.std.proofs.lemmas.Grind.{flat_map-append}
use Rattle.std.proofs.lemmas.List.{append-nil, map-append}
use Rattle.std.proofs.lemmas.List.Elements.{All-append, All-cons, All-contains, All-nil, All-tail}
use Rattle.std.proofs.lemmas.List.Elements.{Contains-append_right}
use Rattle.ce_angle.specs.Farey.{AreAnglesUpTo, IsAngleUpTo}
use Rattle.ce_angle.specs.Fraction.{Fraction}
use Rattle.ce_angle.proofs.FareyList.{all_angles}
use Rattle.ce_cert.specs.declared.certificate.Flaw.{Flaw}
use Rattle.ce_cert.specs.declared.certificate.Flaw.TheVariants as flaw
use Rattle.ce_cert.proofs.FirstFlaw.{Test, below_or_not, both, holds_or_flaw, same_or_not, test_by}
use Rattle.ce_map.specs.Digits.{IsNumber}
use Rattle.ce_map.specs.Fits.{HasEnd, HasItem, IsUnfit}
use Rattle.ce_map.specs.Grammar.{Header, IsHeader, header_line, Item, IsItem, end_line, item_text, most_order}
use Rattle.ce_map.proofs.NextPart.{header_or_not, next_part}
use Rattle.ce_map.proofs.WalkLaws.{item_long}
use Rattle.ce_thurston.specs.Indices.{rows_at}
use Rattle.ce_check.specs.Flaws.{HasFlaw, HasFlawedEnd, HasFlawedItem, IsEndCause, IsExpected}
use Rattle.ce_check.specs.Flaws.{IsGoodFront, IsItemCause, line_after}
use Rattle.ce_check.specs.GoodMap.{IsCertified}
use Rattle.ce_check.specs.Verdicts.{HasGoodMap, IsVerdict}
use Rattle.ce_check.specs.declared.verdict.Cause.{Cause}
use Rattle.ce_check.specs.declared.verdict.Cause.TheVariants.{Form, Order, Missing, Length, Rank, Entry, Low, High}
use Rattle.ce_check.specs.declared.verdict.Cause.TheVariants.{Count, Tail}
use Rattle.ce_check.specs.declared.verdict.Verdict.{Verdict}
use Rattle.ce_check.specs.declared.verdict.Verdict.TheVariants.{Accepted, Refused}
use Rattle.ce_check.proofs.CheckLaws.{item_flaw, short_orbit}
use Rattle.ce_check.proofs.ItemVerdicts.{fraction}

fraction_or_not : (f g : Fraction) → Test (f ≡ g)
fraction_or_not f g =
    test_by (◌≡◌ f.num g.num × ◌≡◌ f.den g.den) (f ≡ g) (λ h. ap (λ n. fraction n f.den) h.0 ∙ ap (fraction g.num) h.1)
    (λ h. (ap (λ x. x.num) h, ap (λ x. x.den) h))
    (both _ _ (same_or_not f.num g.num) (same_or_not f.den g.den))

-- a fraction is in a list, or it is not
none_of : (g : Fraction) (gs : List Fraction) (f : Fraction) → g ≢ f → ¬ (Contains gs f) → ¬ (Contains (g ∷ gs) f)
none_of g gs f other none (zero, less, is) = other is
none_of g gs f other none (suc i, less, is) = none (i, omega (arith, less), is)

listed_or_not : (list : List Fraction) (f : Fraction) → Test (Contains list f)
listed_or_not [] f = inr (λ h. let less = h.1 in omega (arith, less))
listed_or_not (g ∷ gs) f = go (fraction_or_not g f) (listed_or_not gs f)
  where
    go : Test (g ≡ f) → Test (Contains gs f) → Test (Contains (g ∷ gs) f)
    go (inl same) rest = inl (0, omega arith, same)
    go (inr other) (inl rest) = inl (Contains-append_right (g ∷ []) gs f rest)
    go (inr other) (inr none) = inr (none_of g gs f other none)

pub up_to_or_not : (order : ℕ) (list : List Fraction) → AreAnglesUpTo order list → (f : Fraction)
    → Test (IsAngleUpTo order f)
up_to_or_not order list all f =
    test_by (Contains list f) (IsAngleUpTo order f) (λ h. All-contains (IsAngleUpTo order) list f all.angles h)
    (all.every f) (listed_or_not list f)

-- what is found of an item where an angle of an order is expected, or none
abbrev Look : ℕ → ℕ → List Fraction → Item → Type 0
Look order exponent left item =
    (IsExpected left item.angle × IsCertified exponent item)
    ⊎ ((cause : Cause) × IsItemCause order exponent left item cause)

flaw_found : (order exponent : ℕ) (left : List Fraction) (item : Item) (f : Flaw) → IsExpected left item.angle
    → HasFlaw exponent item f → (cause : Cause) × IsItemCause order exponent left item cause
flaw_found order exponent left item flaw.Length e h = (Length, (e, h))
flaw_found order exponent left item flaw.Rank e h = (Rank, (e, h))
flaw_found order exponent left item flaw.Entry e h = (Entry, (e, h))
flaw_found order exponent left item flaw.Low e h = (Low, (e, h))
flaw_found order exponent left item flaw.High e h = (High, (e, h))

module _ (order exponent : ℕ) (few : order ≤ 128) (item : Item) where
  look_expected : (e : Fraction) (es : List Fraction) → IsAngleUpTo order e → e ≡ item.angle
      → Look order exponent (e ∷ es) item
  look_expected e es up same =
      let short = short_orbit order e item.angle few up same in
      elim (holds_or_flaw (rows_at short.0 exponent) item.evidence) [
        | inl holds ↦ inl (same, record { orbit = short.0; short = short.1; holds = holds })
        | inr (f, first) ↦ inr (flaw_found order exponent (e ∷ es) item f same
            (record { orbit = short.0; short = short.1; first = first }))
      ]

  look : (list left : List Fraction) → AreAnglesUpTo order list → All (IsAngleUpTo order) left
      → Look order exponent left item
  look list [] all up = inr (Order, (λ none. none, λ none. none))
  look list (e ∷ es) all up = elim (fraction_or_not e item.angle) [
    | inl same ↦ look_expected e es (All-contains (IsAngleUpTo order) (e ∷ es) e up (0, omega arith, refl)) same
    | inr other ↦ elim (both _ _ (up_to_or_not order list all item.angle)
        (below_or_not (e.num * item.angle.den) (item.angle.num * e.den))) [
          | inl above ↦ inr (Missing, above)
          | inr none ↦ inr (Order, (other, none))
        ]
  ]

abbrev Some : List ℕ → Type 0
Some bytes = (v : Verdict) × IsVerdict bytes v

-- what is true of all of two lists, of the second
later : {X : Type 0} (P : X → Type 0) (xs ys : List X) → All P (xs ++ ys) → All P ys
later P [] ys all = all
later P (x ∷ xs) ys all = later P xs ys (All-tail P x (xs ++ ys) all)

module _ (bytes : List ℕ) (h : Header) (items : List Item) where
  abbrev text : Item → List ℕ
  text = item_text h.version

  module _ (left : List Fraction) (rest : List ℕ) (front : IsGoodFront bytes h items left rest) where
    -- the same front before a rest that is spelled
    before : (tail : List ℕ) → rest ≡ tail → IsGoodFront bytes h items left tail
    before tail same = subst (IsGoodFront bytes h items left) same front

    unfit : (lines : ℕ) → IsUnfit h.version rest lines → Some bytes
    unfit lines lacks = (
      Refused (line_after items + lines) Form,
      inr (record {
        header = h;
        items = items;
        left = left;
        rest = rest;
        lines = lines;
        front = front;
        unfit = lacks;
        at_line = refl;
      }),
    )

    flawed : (item : HasItem h.version rest) (cause : Cause) → IsItemCause h.order h.exponent left item.item cause
        → Some bytes
    flawed item cause is =
        let has : HasFlawedItem bytes (line_after items) cause = record {
          header = h;
          items = items;
          left = left;
          item = item.item;
          after = item.rest;
          front = before (text item.item ++ item.rest) item.spelled;
          is_item = item.is_item;
          cause_is = is;
          at_line = refl;
        } in (
          Refused (line_after items) cause,
          item_flaw bytes (line_after items) h.order h.exponent left item.item cause is
              has,
        )

    end_flawed : (end : HasEnd rest) (cause : Cause) (lines : ℕ)
        → IsEndCause left (length items) end.count end.rest cause lines
        → HasFlawedEnd bytes (line_after items + lines) cause
    end_flawed end cause lines is = record {
      header = h;
      items = items;
      left = left;
      count = end.count;
      after = end.rest;
      lines = lines;
      front = before (end_line end.count ++ end.rest) end.spelled;
      number = end.number;
      cause_is = is;
      at_line = refl;
    }

  -- nothing is left, and the end has the number of the items
  good : (rest : List ℕ) → IsGoodFront bytes h items [] rest → IsNumber (length items) → rest ≡ end_line (length items)
      → HasGoodMap bytes (length items)
  good rest front number same = record {
    header = h;
    items = items;
    good = record {
      spelled = record {
        spelled = front.spelled ∙ ap (λ l. header_line h ++ (flat_map text items ++ l)) same
            ∙ sym (append_assoc (header_line h) (flat_map text items) (end_line (length items)));
        header = front.header;
        each = front.each;
        end = number;
      };
      angles = subst (AreAnglesUpTo h.order) (append-nil (map (λ i. i.angle) items)) front.angles;
      certified = front.certified;
    };
    counted = refl;
  }

  end_by : (left : List Fraction) (rest : List ℕ) → IsGoodFront bytes h items left rest → (end : HasEnd rest)
      → (after : List ℕ) → end.rest ≡ after → Test (end.count ≡ length items) → Some bytes
  end_by (e ∷ es) rest front end after is counted =
      (Refused (line_after items + 0) Missing, inr (end_flawed (e ∷ es) rest front end Missing 0 (λ none. cc, refl)))
  end_by [] rest front end after is (inr other) =
      (Refused (line_after items + 0) Count, inr (end_flawed [] rest front end Count 0 (refl, other, refl)))
  end_by [] rest front end (c ∷ cs) is (inl counted) = (
    Refused (line_after items + 1) Tail,
    inr (end_flawed [] rest front end Tail 1 (refl, counted, (λ none. let both = sym is ∙ none in cc), refl)),
  )
  end_by [] rest front end [] is (inl counted) =
      let spelled : rest ≡ end_line (length items) =
      end.spelled ∙ ap (λ l. end_line end.count ++ l) is ∙ append-nil (end_line end.count) ∙ ap end_line counted in
      (Accepted (length items), good rest front (subst IsNumber counted end.number) spelled)

  -- one more good item
  module _ (e : Fraction) (es : List Fraction) (rest : List ℕ) (front : IsGoodFront bytes h items (e ∷ es) rest)
      (item : HasItem h.version rest) where
    abbrev more : List Item
    more = items ++ item.item ∷ []

    longer : e ≡ item.item.angle → IsCertified h.exponent item.item → IsGoodFront bytes h more es item.rest
    longer same certified =
        let grown : flat_map text more ≡ flat_map text items ++ text item.item =
        flat_map-append text items (item.item ∷ [])
        ∙ ap (λ l. flat_map text items ++ l) (append-nil (text item.item)) in
        let listed : map (λ i. i.angle) items ++ (e ∷ es) ≡ map (λ i. i.angle) more ++ es =
        ap (λ a. map (λ i. i.angle) items ++ (a ∷ es)) same
        ∙ sym (append_assoc (map (λ i. i.angle) items) (item.item.angle ∷ []) es)
        ∙ ap (λ l. l ++ es) (sym (map-append (λ (i : Item). i.angle) items (item.item ∷ []))) in
        record {
          header = front.header;
          each = All-append IsItem items (item.item ∷ []) front.each (All-cons IsItem item.item [] item.is_item
              (All-nil IsItem));
          spelled = front.spelled ∙ ap (λ l. header_line h ++ (flat_map text items ++ l)) item.spelled
              ∙ ap (λ l. header_line h ++ l) (sym (append_assoc (flat_map text items) (text item.item) item.rest))
              ∙ ap (λ l. header_line h ++ (l ++ item.rest)) (sym grown);
          angles = subst (AreAnglesUpTo h.order) listed front.angles;
          certified =
              All-append (IsCertified h.exponent) items (item.item ∷ []) front.certified
              (All-cons (IsCertified h.exponent) item.item [] certified (All-nil (IsCertified h.exponent)));
        }

pub few_order : (h : Header) → IsHeader h → h.order ≤ 128
few_order h is = elim is.version [
  | inl one ↦ let few = subst (λ v. h.order ≤ most_order v) one is.few in omega (arith, few)
  | inr two ↦ let few = subst (λ v. h.order ≤ most_order v) two is.few in omega (arith, few)
]

shorter : (version : ℕ) (rest : List ℕ) (item : HasItem version rest) → length item.rest < length rest
shorter version rest item =
    omega (
      arith,
      item_long version item.item,
      ap length item.spelled,
      length-append (item_text version item.item) item.rest,
    )

module _ (bytes : List ℕ) (h : Header) (is : IsHeader h) where
  abbrev Goes : ℕ → Type 0
  Goes fuel = (items : List Item) (left : List Fraction) (rest : List ℕ) → length rest < fuel
      → IsGoodFront bytes h items left rest → Some bytes

  item_by : (fuel : ℕ) → Goes fuel → (items : List Item) (left : List Fraction) (rest : List ℕ) → length rest < suc fuel
      → IsGoodFront bytes h items left rest → (item : HasItem h.version rest) → Look h.order h.exponent left item.item
      → Some bytes
  item_by fuel next items left rest enough front item (inr (cause, flaw)) =
      flawed bytes h items left rest front item cause flaw
  item_by fuel next items [] rest enough front item (inl good) = absurd good.0
  item_by fuel next items (e ∷ es) rest enough front item (inl good) =
      next (items ++ item.item ∷ []) es item.rest (omega (arith, enough, shorter h.version rest item))
      (longer bytes h items e es rest front item good.0 good.1)

  parts : (fuel : ℕ) → Goes fuel
  parts zero items left rest enough front = absurd (omega (arith, enough))
  parts (suc fuel) items left rest enough front =
      let list = map (λ i. i.angle) items ++ left in
      elim (next_part h.version rest) [
        | inl item ↦ item_by fuel (parts fuel) items left rest enough front item
            (look h.order h.exponent (few_order h is) item.item list left front.angles
            (later (IsAngleUpTo h.order) (map (λ i. i.angle) items) left front.angles.angles))
        | inr (inl end) ↦ end_by bytes h items left rest front end end.rest refl (same_or_not end.count (length items))
        | inr (inr (lines, lacks)) ↦ unfit bytes h items left rest front lines lacks
      ]

pub some_verdict : (bytes : List ℕ) → (v : Verdict) × IsVerdict bytes v
some_verdict bytes = elim (header_or_not bytes) [
  | inr lacks ↦ (Refused 1 Form, inl (lacks, refl))
  | inl has ↦
      let h = has.header in
      let few = few_order h has.is_header in
      parts bytes h has.is_header (length has.rest + 1) [] _ has.rest (omega arith) (record {
        header = has.is_header;
        each = All-nil IsItem;
        spelled = has.spelled;
        angles = all_angles h.order (omega (arith, has.is_header.some)) (omega (arith, few));
        certified = All-nil (IsCertified h.exponent);
      })
]
