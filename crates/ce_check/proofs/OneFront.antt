-- The good items at the front of a text are the same, wherever they stop.
use Rattle.std.proofs.Common.{◌≡◌, ◌≢◌, ◌<◌, ◌+◌, ◌*◌, ℕ, zero, suc, List, [], ◌∷◌, ◌++◌, length, map, take, drop, refl}
use Rattle.std.proofs.Common.{sym, ap, subst, ◌∙◌, arith, append_assoc, ◌⊎◌, inl, inr}
use Rattle.std.specs.List.{All, flat_map, concat}
use Rattle.std.proofs.lemmas.List.{append-nil}
use Rattle.std.proofs.lemmas.List.Elements.{All-head, All-tail}
use Rattle.ce_angle.specs.Farey.{AreAnglesUpTo}
use Rattle.ce_angle.specs.Fraction.{Fraction}
use Rattle.ce_angle.proofs.OneList.{one_list}
use Rattle.ce_cert.specs.Certificate.{IsCertificate}
use Rattle.ce_cert.specs.Evidence.{IsFirstFlaw}
use Rattle.ce_cert.specs.declared.certificate.Flaw.{Flaw}
use Rattle.ce_cert.specs.declared.certificate.Flaw.TheVariants as flaw
use Rattle.ce_map.specs.Fits.{IsUnfit}
use Rattle.ce_map.specs.Grammar.{Header, header_line, Item, IsItem, item_text, item_lines, end_line}
use Rattle.ce_map.proofs.Unique.{one_header, one_item, one_end, no_end}
use Rattle.ce_orbit.proofs.Unique.{one_orbit}
use Rattle.ce_rows.specs.Rows.{ScaledRows}
use Rattle.ce_check.specs.Flaws.{IsGoodFront, IsExpected, IsAbove, IsItemCause, IsEndCause, HasFlaw, HasUnfitLine}
use Rattle.ce_check.specs.Flaws.{HasFlawedItem, HasFlawedEnd, IsFirstFlawOf}
use Rattle.ce_check.specs.GoodMap.{IsCertified, IsGoodMap}
use Rattle.ce_thurston.specs.Indices.{rows_at}
use Rattle.ce_check.specs.declared.verdict.Cause.{Cause}
use Rattle.ce_check.specs.declared.verdict.Cause.TheVariants.{Form, Order, Missing, Length, Rank, Entry, Low, High}
use Rattle.ce_check.specs.declared.verdict.Cause.TheVariants.{Count, Tail}

-- No good item stands next.
abbrev pub IsStop : Header → List Fraction → List ℕ → Type 0
IsStop h left rest =
    (item : Item) (after : List ℕ) → IsItem item → rest ≡ item_text h.version item ++ after → IsExpected left item.angle
    → IsCertified h.exponent item → ⊥

pub record IsSameRest (xs ys : List Item) (left other : List Fraction) (rest tail : List ℕ) : Type 0 where
  pub list : xs ≡ ys
  pub angles : left ≡ other
  pub text : rest ≡ tail

first_expected : (left : List Fraction) (angle : Fraction) (more : List Fraction) → left ≡ angle ∷ more
    → IsExpected left angle
first_expected left angle more same = subst (λ l. IsExpected l angle) (sym same) refl

abbrev angles_of : List Item → List Fraction
angles_of items = map (λ i. i.angle) items

module _ (h : Header) where
  abbrev texts : List Item → List ℕ
  texts items = flat_map (item_text h.version) items

  more_text : (x : Item) (xs : List Item) (rest : List ℕ)
      → texts (x ∷ xs) ++ rest ≡ item_text h.version x ++ (texts xs ++ rest)
  more_text x xs rest = append_assoc (item_text h.version x) (texts xs) rest

  same_rest : (xs ys : List Item) (left other : List Fraction) (rest tail : List ℕ) → All IsItem xs → All IsItem ys
      → All (IsCertified h.exponent) xs → All (IsCertified h.exponent) ys
      → texts xs ++ rest ≡ texts ys ++ tail → angles_of xs ++ left ≡ angles_of ys ++ other → IsStop h left rest
      → IsStop h other tail → IsSameRest xs ys left other rest tail
  same_rest [] [] left other rest tail ix iy cx cy text angles s t =
      record { list = refl; angles = angles; text = text }
  same_rest [] (y ∷ ys) left other rest tail ix iy cx cy text angles s t =
      absurd (s y (texts ys ++ tail) (All-head IsItem y ys iy) (text ∙ more_text y ys tail)
      (first_expected left y.angle (angles_of ys ++ other) angles) (All-head (IsCertified h.exponent) y ys cy))
  same_rest (x ∷ xs) [] left other rest tail ix iy cx cy text angles s t =
      absurd (t x (texts xs ++ rest) (All-head IsItem x xs ix) (sym text ∙ more_text x xs rest)
      (first_expected other x.angle (angles_of xs ++ left) (sym angles))
      (All-head (IsCertified h.exponent) x xs cx))
  same_rest (x ∷ xs) (y ∷ ys) left other rest tail ix iy cx cy text angles s t =
      let first =
      one_item h.version x y (texts xs ++ rest) (texts ys ++ tail) (All-head IsItem x xs ix)
      (All-head IsItem y ys iy) (sym (more_text x xs rest) ∙ text ∙ more_text y ys tail) in
      let more =
      same_rest xs ys left other rest tail (All-tail IsItem x xs ix) (All-tail IsItem y ys iy)
      (All-tail (IsCertified h.exponent) x xs cx) (All-tail (IsCertified h.exponent) y ys cy) first.rest
      (ap (drop 1) angles) s t in
      let head = first.item in
      let tails = more.list in
      record { list = cc; angles = more.angles; text = more.text }

pub record IsSameFront (h g : Header) (xs ys : List Item) (left other : List Fraction)
    (rest tail : List ℕ) : Type 0 where
  pub header : h ≡ g
  pub same : IsSameRest xs ys left other rest tail

pub one_front : (bytes : List ℕ) (h g : Header) (xs ys : List Item) (left other : List Fraction) (rest tail : List ℕ)
    → IsGoodFront bytes h xs left rest → IsGoodFront bytes g ys other tail → IsStop h left rest → IsStop g other tail
    → IsSameFront h g xs ys left other rest tail
one_front bytes h g xs ys left other rest tail a b s t =
    let first =
    one_header h g (flat_map (item_text h.version) xs ++ rest) (flat_map (item_text g.version) ys ++ tail) a.header
    b.header (sym a.spelled ∙ b.spelled) in
    let back = sym first.header in
    let text = first.rest ∙ ap (λ k. flat_map (item_text k.version) ys ++ tail) back in
    let up = subst (λ k. AreAnglesUpTo k.order (map (λ i. i.angle) ys ++ other)) back b.angles in
    let angles = one_list h.order (map (λ i. i.angle) xs ++ left) (map (λ i. i.angle) ys ++ other) a.angles up in
    record {
      header = first.header;
      same = same_rest h xs ys left other rest tail a.each b.each a.certified
          (subst (λ k. All (IsCertified k.exponent) ys) back b.certified) text angles s
          (subst (λ k. IsStop k other tail) back t);
    }

-- what stops
pub lines_front : (k : ℕ) (l : List (List ℕ)) (after : List ℕ)
    → concat l ++ after ≡ concat (take k l) ++ (concat (drop k l) ++ after)
lines_front zero l after = refl
lines_front (suc k) [] after = refl
lines_front (suc k) (x ∷ xs) after = append_assoc x (concat xs) after ∙ ap (λ t. x ++ t) (lines_front k xs after)
    ∙ sym (append_assoc x (concat (take k xs)) (concat (drop k xs) ++ after))

pub unfit_no_item : (version : ℕ) (rest : List ℕ) (lines : ℕ) → IsUnfit version rest lines
    → (item : Item) (after : List ℕ) → IsItem item → rest ≢ item_text version item ++ after
unfit_no_item version rest lines unfit item after is same =
    unfit.next item _ is (same ∙ lines_front (lines + 1) (item_lines version item) after)

pub unfit_stops : (h : Header) (left : List Fraction) (rest : List ℕ) (lines : ℕ) → IsUnfit h.version rest lines
    → IsStop h left rest
unfit_stops h left rest lines unfit item after is same expected certified =
    unfit_no_item h.version rest lines unfit item after is same

pub end_stops : (h : Header) (left : List Fraction) (rest : List ℕ) (count : ℕ) (tail : List ℕ)
    → rest ≡ end_line count ++ tail → IsStop h left rest
end_stops h left rest count tail is item after ok same expected certified =
    no_end h.version count item after tail (sym same ∙ is)

no_flaw_by : (rows : ScaledRows) (item : Item) (f : Flaw) → IsFirstFlaw rows item.evidence f
    → IsCertificate rows item.evidence → ⊥
no_flaw_by rows item flaw.Length h k = h k.lengths
no_flaw_by rows item flaw.Rank h k = h.1 k.ranking
no_flaw_by rows item flaw.Entry h k = h.2 k.entries
no_flaw_by rows item flaw.Low h k = h.3 k.low
no_flaw_by rows item flaw.High h k = h.4 k.high

pub no_flaw : (exponent : ℕ) (item : Item) (f : Flaw) → HasFlaw exponent item f → IsCertified exponent item → ⊥
no_flaw exponent item f h k =
    let same = one_orbit k.orbit h.orbit k.short.is_orbit h.short.is_orbit (k.short.of_angle ∙ sym h.short.of_angle) in
    no_flaw_by (rows_at h.orbit exponent) item f h.first
    (subst (λ o. IsCertificate (rows_at o exponent) item.evidence) same k.holds)

pub not_above : (order : ℕ) (left : List Fraction) (angle : Fraction) → IsAbove order left angle → IsExpected left angle
    → ⊥
not_above order [] angle above expected = above
not_above order (e ∷ es) angle above expected =
    let same : e.num * angle.den < angle.num * e.den = above.1 in
    let again : angle.num * angle.den < angle.num * angle.den =
    subst (λ f. f.num * angle.den < angle.num * f.den) expected same in
    omega arith

no_cause : (order exponent : ℕ) (left : List Fraction) (item : Item) (cause : Cause)
    → IsItemCause order exponent left item cause → IsExpected left item.angle → IsCertified exponent item → ⊥
no_cause order exponent left item Missing h e k = not_above order left item.angle h e
no_cause order exponent left item Order h e k = h.0 e
no_cause order exponent left item Length h e k = no_flaw exponent item flaw.Length h.1 k
no_cause order exponent left item Rank h e k = no_flaw exponent item flaw.Rank h.1 k
no_cause order exponent left item Entry h e k = no_flaw exponent item flaw.Entry h.1 k
no_cause order exponent left item Low h e k = no_flaw exponent item flaw.Low h.1 k
no_cause order exponent left item High h e k = no_flaw exponent item flaw.High h.1 k
no_cause order exponent left item Form h e k = h
no_cause order exponent left item Count h e k = h
no_cause order exponent left item Tail h e k = h

pub item_stops : (h : Header) (left : List Fraction) (item : Item) (after : List ℕ) (cause : Cause) → IsItem item
    → IsItemCause h.order h.exponent left item cause → IsStop h left (item_text h.version item ++ after)
item_stops h left item after cause is flawed other tail ok same expected certified =
    let one = (one_item h.version item other after tail is ok same).item in
    no_cause h.order h.exponent left item cause flawed (subst (λ i. IsExpected left i.angle) (sym one) expected)
    (subst (IsCertified h.exponent) (sym one) certified)

-- the front of a good map is all its items, and the end stops
module _ (bytes : List ℕ) (h : Header) (items : List Item) (good : IsGoodMap bytes h items) where
  pub good_front : IsGoodFront bytes h items [] (end_line (length items) ++ [])
  good_front = record {
    header = good.spelled.header;
    each = good.spelled.each;
    spelled =
        good.spelled.spelled ∙ append_assoc (header_line h) (flat_map (item_text h.version) items)
        (end_line (length items)) ∙ ap (λ e. header_line h ++ (flat_map (item_text h.version) items ++ e))
        (sym (append-nil (end_line (length items))));
    angles = subst (AreAnglesUpTo h.order) (sym (append-nil (map (λ i. i.angle) items))) good.angles;
    certified = good.certified;
  }

  good_stops : IsStop h [] (end_line (length items) ++ [])
  good_stops = end_stops h [] (end_line (length items) ++ []) (length items) [] refl

  no_unfit : (line : ℕ) → HasUnfitLine bytes line → ⊥
  no_unfit line k =
      let same =
      (one_front bytes h k.header items k.items [] k.left (end_line (length items) ++ []) k.rest good_front k.front
      good_stops (unfit_stops k.header k.left k.rest k.lines k.unfit)).same in
      k.unfit.no_end (length items) [] good.spelled.end (sym same.text)

  no_flawed_item : (line : ℕ) (cause : Cause) → HasFlawedItem bytes line cause → ⊥
  no_flawed_item line cause k =
      let same =
      (one_front bytes h k.header items k.items [] k.left (end_line (length items) ++ [])
      (item_text k.header.version k.item ++ k.after) good_front k.front good_stops
      (item_stops k.header k.left k.item k.after cause k.is_item k.cause_is)).same in
      no_end k.header.version (length items) k.item k.after [] (sym same.text)

  no_end_cause : (cause : Cause) (left : List Fraction) (ys : List Item) (count lines : ℕ) (after : List ℕ) → [] ≡ left
      → items ≡ ys → length items ≡ count → [] ≡ after → IsEndCause left (length ys) count after cause lines → ⊥
  no_end_cause Missing left ys count lines after a b c d k = k.0 (sym a)
  no_end_cause Count left ys count lines after a b c d k = k.1 (sym c ∙ ap length b)
  no_end_cause Tail left ys count lines after a b c d k = k.2 (sym d)
  no_end_cause Form left ys count lines after a b c d k = k
  no_end_cause Order left ys count lines after a b c d k = k
  no_end_cause Length left ys count lines after a b c d k = k
  no_end_cause Rank left ys count lines after a b c d k = k
  no_end_cause Entry left ys count lines after a b c d k = k
  no_end_cause Low left ys count lines after a b c d k = k
  no_end_cause High left ys count lines after a b c d k = k

  no_flawed_end : (line : ℕ) (cause : Cause) → HasFlawedEnd bytes line cause → ⊥
  no_flawed_end line cause k =
      let same =
      (one_front bytes h k.header items k.items [] k.left (end_line (length items) ++ [])
      (end_line k.count ++ k.after) good_front k.front good_stops
      (end_stops k.header k.left (end_line k.count ++ k.after) k.count k.after refl)).same in
      let end = one_end (length items) k.count [] k.after good.spelled.end k.number same.text in
      no_end_cause cause k.left k.items k.count k.lines k.after same.angles same.list end.count end.rest k.cause_is

  no_other : (line : ℕ) (cause : Cause) → HasFlawedItem bytes line cause ⊎ HasFlawedEnd bytes line cause → ⊥
  no_other line cause (inl k) = no_flawed_item line cause k
  no_other line cause (inr k) = no_flawed_end line cause k

  pub no_flaw_of_good : (line : ℕ) (cause : Cause) → IsFirstFlawOf bytes line cause → ⊥
  no_flaw_of_good line Form (inl k) =
      k.0 h (flat_map (item_text h.version) items ++ (end_line (length items) ++ [])) good.spelled.header
      good_front.spelled
  no_flaw_of_good line Form (inr k) = no_unfit line k
  no_flaw_of_good line Order k = no_other line Order k
  no_flaw_of_good line Missing k = no_other line Missing k
  no_flaw_of_good line Length k = no_other line Length k
  no_flaw_of_good line Rank k = no_other line Rank k
  no_flaw_of_good line Entry k = no_other line Entry k
  no_flaw_of_good line Low k = no_other line Low k
  no_flaw_of_good line High k = no_other line High k
  no_flaw_of_good line Count k = no_other line Count k
  no_flaw_of_good line Tail k = no_other line Tail k
