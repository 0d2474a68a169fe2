-- A text has one verdict.
use Rattle.std.proofs.Common.{◌≡◌, ◌≢◌, ◌<◌, ◌≤◌, ◌+◌, ℕ, zero, suc, List, [], ◌∷◌, ◌++◌, length, take, drop, refl, sym}
use Rattle.std.proofs.Common.{ap, subst, ◌∙◌, arith, ◌⊎◌, inl, inr}
use Rattle.std.specs.List.{flat_map, concat}
use Rattle.std.proofs.lemmas.Bool.{cases_order}
use Rattle.ce_angle.specs.Fraction.{Fraction}
use Rattle.ce_map.specs.Digits.{IsNumber}
use Rattle.ce_map.specs.Fits.{LacksHeader, IsUnfit}
use Rattle.ce_map.specs.Grammar.{Header, Item, IsItem, item_text, item_lines, end_line}
use Rattle.ce_map.proofs.Unique.{one_item, one_end, no_end}
use Rattle.ce_check.specs.Flaws.{IsGoodFront, IsItemCause, IsEndCause, HasUnfitLine}
use Rattle.ce_check.specs.Flaws.{HasFlawedItem, HasFlawedEnd, line_after}
use Rattle.ce_check.specs.Verdicts.{HasGoodMap, IsVerdict}
use Rattle.ce_check.specs.declared.verdict.Cause.{Cause}
use Rattle.ce_check.specs.declared.verdict.Cause.TheVariants.{Form, Order, Missing, Length, Rank, Entry, Low, High}
use Rattle.ce_check.specs.declared.verdict.Cause.TheVariants.{Count, Tail}
use Rattle.ce_check.specs.declared.verdict.Verdict.{Verdict}
use Rattle.ce_check.specs.declared.verdict.Verdict.TheVariants.{Accepted, Refused}
use Rattle.ce_check.proofs.OneItem.{one_cause}
use Rattle.ce_check.proofs.OneFront.{IsStop, one_front, unfit_no_item, unfit_stops, end_stops, item_stops}
use Rattle.ce_check.proofs.OneFront.{good_front, lines_front}

-- what a verdict says of the part that stops a good front
record UnfitSays (h : Header) (items : List Item) (rest : List ℕ) (v : Verdict) : Type 0 where
  lines : ℕ
  unfit : IsUnfit h.version rest lines
  is : v ≡ Refused (line_after items + lines) Form

record ItemSays (h : Header) (items : List Item) (left : List Fraction) (rest : List ℕ) (v : Verdict) : Type 0 where
  item : Item
  after : List ℕ
  is_item : IsItem item
  same : rest ≡ item_text h.version item ++ after
  cause : Cause
  cause_is : IsItemCause h.order h.exponent left item cause
  is : v ≡ Refused (line_after items) cause

abbrev EndVerdict : List Fraction → List Item → ℕ → List ℕ → Verdict → Type 0
EndVerdict left items count after v =
    ((left ≢ []) × (v ≡ Refused (line_after items + 0) Missing))
    ⊎ (((left ≡ []) × (count ≢ length items) × (v ≡ Refused (line_after items + 0) Count))
    ⊎ (((left ≡ []) × (count ≡ length items) × (after ≢ []) × (v ≡ Refused (line_after items + 1) Tail))
    ⊎ ((left ≡ []) × (count ≡ length items) × (after ≡ []) × (v ≡ Accepted (length items)))))

record EndSays (items : List Item) (left : List Fraction) (rest : List ℕ) (v : Verdict) : Type 0 where
  count : ℕ
  after : List ℕ
  number : IsNumber count
  same : rest ≡ end_line count ++ after
  says : EndVerdict left items count after v

abbrev PartSays : Header → List Item → List Fraction → List ℕ → Verdict → Type 0
PartSays h items left rest v = UnfitSays h items rest v ⊎ (ItemSays h items left rest v ⊎ EndSays items left rest v)

record HasStopped (bytes : List ℕ) (v : Verdict) : Type 0 where
  header : Header
  items : List Item
  left : List Fraction
  rest : List ℕ
  front : IsGoodFront bytes header items left rest
  part : PartSays header items left rest v

part_stops : (h : Header) (items : List Item) (left : List Fraction) (rest : List ℕ) (v : Verdict)
    → PartSays h items left rest v → IsStop h left rest
part_stops h items left rest v (inl p) = unfit_stops h left rest p.lines p.unfit
part_stops h items left rest v (inr (inl p)) =
    subst (IsStop h left) (sym p.same) (item_stops h left p.item p.after p.cause p.is_item p.cause_is)
part_stops h items left rest v (inr (inr p)) = end_stops h left rest p.count p.after p.same

take-take-le : (a b : ℕ) (l : List (List ℕ)) → a ≤ b → take a (take b l) ≡ take a l
take-take-le zero b l h = refl
take-take-le (suc a) zero l h = absurd (omega arith)
take-take-le (suc a) (suc b) [] h = refl
take-take-le (suc a) (suc b) (x ∷ xs) h = ap (λ l. x ∷ l) (take-take-le a b xs (omega arith))

-- the lines of a part that fit are so many
module _ (version : ℕ) (rest : List ℕ) where
  more_lines : (a b : ℕ) → IsUnfit version rest a → IsUnfit version rest b → a < b → ⊥
  more_lines a b p q less =
      let lines = item_lines version q.fits.item in
      let front = take b lines in
      let same : concat front ++ q.fits.rest ≡ concat (take (a + 1) front) ++
      (concat (drop (a + 1) front) ++ q.fits.rest) = lines_front (a + 1) front q.fits.rest in
      let fewer : take (a + 1) front ≡ take (a + 1) lines = take-take-le (a + 1) b lines (omega arith) in
      p.next q.fits.item _ q.fits.is_item (q.fits.spelled ∙ same
      ∙ ap (λ l. concat l ++ (concat (drop (a + 1) front) ++ q.fits.rest)) fewer)

  pub one_unfit : (a b : ℕ) → IsUnfit version rest a → IsUnfit version rest b → a ≡ b
  one_unfit a b p q = by_order (cases_order a b)
    where
      by_order : (a ≡ b) ⊎ ((a < b) ⊎ (b < a)) → a ≡ b
      by_order (inl e) = e
      by_order (inr (inl less)) = absurd (more_lines a b p q less)
      by_order (inr (inr more)) = absurd (more_lines b a q p more)

module _ (h : Header) (items : List Item) (left : List Fraction) (rest : List ℕ) (v u : Verdict) where
  same_end : (count : ℕ) (after : List ℕ) → EndVerdict left items count after v → EndVerdict left items count after u
      → v ≡ u
  same_end count after (inl p) (inl q) = p.1 ∙ sym q.1
  same_end count after (inl p) (inr (inl q)) = absurd (p.0 q.0)
  same_end count after (inl p) (inr (inr (inl q))) = absurd (p.0 q.0)
  same_end count after (inl p) (inr (inr (inr q))) = absurd (p.0 q.0)
  same_end count after (inr (inl p)) (inl q) = absurd (q.0 p.0)
  same_end count after (inr (inl p)) (inr (inl q)) = p.2 ∙ sym q.2
  same_end count after (inr (inl p)) (inr (inr (inl q))) = absurd (p.1 q.1)
  same_end count after (inr (inl p)) (inr (inr (inr q))) = absurd (p.1 q.1)
  same_end count after (inr (inr (inl p))) (inl q) = absurd (q.0 p.0)
  same_end count after (inr (inr (inl p))) (inr (inl q)) = absurd (q.1 p.1)
  same_end count after (inr (inr (inl p))) (inr (inr (inl q))) = p.3 ∙ sym q.3
  same_end count after (inr (inr (inl p))) (inr (inr (inr q))) = absurd (p.2 q.2)
  same_end count after (inr (inr (inr p))) (inl q) = absurd (q.0 p.0)
  same_end count after (inr (inr (inr p))) (inr (inl q)) = absurd (q.1 p.1)
  same_end count after (inr (inr (inr p))) (inr (inr (inl q))) = absurd (q.2 p.2)
  same_end count after (inr (inr (inr p))) (inr (inr (inr q))) = p.3 ∙ sym q.3

  same_items : ItemSays h items left rest v → ItemSays h items left rest u → v ≡ u
  same_items p q =
      let one = (one_item h.version q.item p.item q.after p.after q.is_item p.is_item (sym q.same ∙ p.same)).item in
      let cause =
      one_cause h.order h.exponent left p.item p.cause q.cause p.cause_is
      (subst (λ i. IsItemCause h.order h.exponent left i q.cause) one q.cause_is) in
      p.is ∙ ap (Refused (line_after items)) cause ∙ sym q.is

  same_ends : EndSays items left rest v → EndSays items left rest u → v ≡ u
  same_ends p q =
      let one = one_end q.count p.count q.after p.after q.number p.number (sym q.same ∙ p.same) in
      let other = subst (λ n. EndVerdict left items n q.after u) one.count q.says in
      same_end p.count p.after p.says (subst (λ t. EndVerdict left items p.count t u) one.rest other)

  same_parts : PartSays h items left rest v → PartSays h items left rest u → v ≡ u
  same_parts (inl p) (inl q) =
      p.is ∙ ap (λ n. Refused (line_after items + n) Form) (one_unfit h.version rest p.lines q.lines p.unfit q.unfit)
      ∙ sym q.is
  same_parts (inl p) (inr (inl q)) =
      absurd (unfit_no_item h.version rest p.lines p.unfit q.item q.after q.is_item q.same)
  same_parts (inl p) (inr (inr q)) = absurd (p.unfit.no_end q.count q.after q.number q.same)
  same_parts (inr (inl p)) (inl q) =
      absurd (unfit_no_item h.version rest q.lines q.unfit p.item p.after p.is_item p.same)
  same_parts (inr (inl p)) (inr (inl q)) = same_items p q
  same_parts (inr (inl p)) (inr (inr q)) =
      absurd (no_end h.version q.count p.item p.after q.after (sym p.same ∙ q.same))
  same_parts (inr (inr p)) (inl q) = absurd (q.unfit.no_end p.count p.after p.number p.same)
  same_parts (inr (inr p)) (inr (inl q)) =
      absurd (no_end h.version p.count q.item q.after p.after (sym q.same ∙ p.same))
  same_parts (inr (inr p)) (inr (inr q)) = same_ends p q

module _ (bytes : List ℕ) (v u : Verdict) where
  same_stop : HasStopped bytes v → HasStopped bytes u → v ≡ u
  same_stop a b =
      let s = one_front bytes b.header a.header b.items a.items b.left a.left b.rest a.rest b.front a.front
      (part_stops b.header b.items b.left b.rest u b.part) (part_stops a.header a.items a.left a.rest v a.part) in
      let p1 = subst (λ h. PartSays h b.items b.left b.rest u) s.header b.part in
      let p2 = subst (λ xs. PartSays a.header xs b.left b.rest u) s.same.list p1 in
      let p3 = subst (λ l. PartSays a.header a.items l b.rest u) s.same.angles p2 in
      let p4 = subst (λ r. PartSays a.header a.items a.left r u) s.same.text p3 in
      same_parts a.header a.items a.left a.rest v u a.part p4

  no_header : LacksHeader bytes → HasStopped bytes u → ⊥
  no_header lacks k =
      lacks k.header (flat_map (item_text k.header.version) k.items ++ k.rest) k.front.header k.front.spelled

-- what a verdict says
module _ (bytes : List ℕ) where
  abbrev Says : Verdict → Type 0
  Says v = (LacksHeader bytes × (v ≡ Refused 1 Form)) ⊎ HasStopped bytes v

  good_says : (count : ℕ) → HasGoodMap bytes count → Says (Accepted count)
  good_says count k = inr (record {
    header = k.header;
    items = k.items;
    left = [];
    rest = end_line (length k.items) ++ [];
    front = good_front bytes k.header k.items k.good;
    part = inr (inr (record {
      count = length k.items;
      after = [];
      number = k.good.spelled.end;
      same = refl;
      says = inr (inr (inr (refl, refl, refl, ap Accepted k.counted)));
    }));
  })

  unfit_says : (line : ℕ) → HasUnfitLine bytes line → Says (Refused line Form)
  unfit_says line k = inr (record {
    header = k.header;
    items = k.items;
    left = k.left;
    rest = k.rest;
    front = k.front;
    part = inl (record { lines = k.lines; unfit = k.unfit; is = ap (λ n. Refused n Form) k.at_line });
  })

  item_says : (line : ℕ) (cause : Cause) → HasFlawedItem bytes line cause → Says (Refused line cause)
  item_says line cause k = inr (record {
    header = k.header;
    items = k.items;
    left = k.left;
    rest = item_text k.header.version k.item ++ k.after;
    front = k.front;
    part = inr (inl (record {
      item = k.item;
      after = k.after;
      is_item = k.is_item;
      same = refl;
      cause = cause;
      cause_is = k.cause_is;
      is = ap (λ n. Refused n cause) k.at_line;
    }));
  })

  end_kind : (line lines : ℕ) (cause : Cause) (left : List Fraction) (items : List Item) (count : ℕ) (after : List ℕ)
      → line ≡ line_after items + lines → IsEndCause left (length items) count after cause lines
      → EndVerdict left items count after (Refused line cause)
  end_kind line lines Missing left items count after at k =
      inl (k.0, ap (λ n. Refused n Missing) (omega (arith, at, k.1)))
  end_kind line lines Count left items count after at k =
      inr (inl (k.0, k.1, ap (λ n. Refused n Count) (omega (arith, at, k.2))))
  end_kind line lines Tail left items count after at k =
      inr (inr (inl (k.0, k.1, k.2, ap (λ n. Refused n Tail) (omega (arith, at, k.3)))))
  end_kind line lines Form left items count after at k = absurd k
  end_kind line lines Order left items count after at k = absurd k
  end_kind line lines Length left items count after at k = absurd k
  end_kind line lines Rank left items count after at k = absurd k
  end_kind line lines Entry left items count after at k = absurd k
  end_kind line lines Low left items count after at k = absurd k
  end_kind line lines High left items count after at k = absurd k

  end_says : (line : ℕ) (cause : Cause) → HasFlawedEnd bytes line cause → Says (Refused line cause)
  end_says line cause k = inr (record {
    header = k.header;
    items = k.items;
    left = k.left;
    rest = end_line k.count ++ k.after;
    front = k.front;
    part = inr (inr (record {
      count = k.count;
      after = k.after;
      number = k.number;
      same = refl;
      says = end_kind line k.lines cause k.left k.items k.count k.after k.at_line k.cause_is;
    }));
  })

  other_says : (line : ℕ) (cause : Cause) → HasFlawedItem bytes line cause ⊎ HasFlawedEnd bytes line cause
      → Says (Refused line cause)
  other_says line cause (inl k) = item_says line cause k
  other_says line cause (inr k) = end_says line cause k

  says : (v : Verdict) → IsVerdict bytes v → Says v
  says (Accepted count) k = good_says count k
  says (Refused line Form) (inl k) = inl (k.0, ap (λ n. Refused n Form) k.1)
  says (Refused line Form) (inr k) = unfit_says line k
  says (Refused line Order) k = other_says line Order k
  says (Refused line Missing) k = other_says line Missing k
  says (Refused line Length) k = other_says line Length k
  says (Refused line Rank) k = other_says line Rank k
  says (Refused line Entry) k = other_says line Entry k
  says (Refused line Low) k = other_says line Low k
  says (Refused line High) k = other_says line High k
  says (Refused line Count) k = other_says line Count k
  says (Refused line Tail) k = other_says line Tail k

  same_verdict : (v u : Verdict) → Says v → Says u → v ≡ u
  same_verdict v u (inl a) (inl b) = a.1 ∙ sym b.1
  same_verdict v u (inl a) (inr b) = absurd (no_header bytes v u a.0 b)
  same_verdict v u (inr a) (inl b) = absurd (no_header bytes u v b.0 a)
  same_verdict v u (inr a) (inr b) = same_stop bytes v u a b

  pub one_verdict : (v u : Verdict) → IsVerdict bytes v → IsVerdict bytes u → v ≡ u
  one_verdict v u a b = same_verdict v u (says v a) (says u b)
