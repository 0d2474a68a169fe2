-- A text has one answer: good parts have no flaw, and other bytes have one first flaw.
use Rattle.std.proofs.Common.{◌≡◌, ◌≢◌, ◌+◌, ◌⊎◌, ℕ, List, [], ◌∷◌, ◌++◌, length}
use Rattle.std.proofs.Common.{refl, sym, ap, subst, ◌∙◌, arith, inl, inr, length-append, append_assoc}
use Rattle.std.specs.List.{flat_map}
use Rattle.std.proofs.lemmas.List.{append-nil, append_cancel_left}
use Rattle.ce_map.specs.Grammar.{Header, Item, item_text, end_line}
use Rattle.ce_map.specs.PartGrammar.{IsPartHeader, part_line, LacksPart}
use Rattle.ce_map.proofs.PartLaws.{one_part}
use Rattle.ce_merge.specs.Flaws.{AreGoodBefore, AreGoodSoFar, BeginsOtherwise, HasFlawedItem}
use Rattle.ce_merge.specs.Flaws.{IsFirstFlawOf, lines_of}
use Rattle.ce_merge.specs.Parts.{AreGoodItems, AreGoodParts, whole_part}
use Rattle.ce_merge.proofs.PartTexts.{texts}
use Rattle.ce_merge.specs.declared.merged.MergeCause.{MergeCause}
use Rattle.ce_merge.specs.declared.merged.MergeCause.TheVariants.{Form, Header as OtherHeader, Order, Length, Rank}
use Rattle.ce_merge.specs.declared.merged.MergeCause.TheVariants.{Entry, Low, High, Count}
use Rattle.ce_merge.proofs.OneReading.{AreSame, IsPartsEnd, inside_ends, lack_ends}
use Rattle.ce_merge.proofs.OneReading.{nothing_ends, one_items, one_parts, other_ends, part_cut}
use Rattle.ce_merge.proofs.OneFlaw.{InsideSays, inside_same, inside_stops, no_whole}

-- Good parts end at a place of bytes that begin by a header.
pub record IsPoint (bytes : List ℕ) (h : Header) (parts : List (List Item)) (rest : List ℕ) : Type 0 where
  pub before : AreGoodBefore bytes h parts rest
  pub ends : IsPartsEnd h rest
  pub after : List ℕ
  pub begins : bytes ≡ part_line h ++ after

pub record IsSamePoint (h g : Header) (ps qs : List (List Item)) (rest tail : List ℕ) : Type 0 where
  pub header : h ≡ g
  pub same : AreSame ps qs rest tail

pub one_point : (bytes : List ℕ) (h g : Header) (ps qs : List (List Item)) (rest tail : List ℕ)
    → IsPoint bytes h ps rest → IsPoint bytes g qs tail → IsSamePoint h g ps qs rest tail
one_point bytes h g ps qs rest tail p q =
    let header = (one_part h g p.after q.after p.before.header q.before.header (sym p.begins ∙ q.begins)).header in
    let r = subst (λ k. IsPoint bytes k qs tail) (sym header) q in
    record {
      header = header;
      same = one_parts h ps qs rest tail p.before.good r.before.good (sym p.before.spelled ∙ r.before.spelled) p.ends
          r.ends;
    }

-- a part at the front begins by its header
part_begins : (bytes : List ℕ) (h : Header) (p : List Item) (ps : List (List Item)) (rest : List ℕ)
    → AreGoodBefore bytes h (p ∷ ps) rest → (after : List ℕ) × (bytes ≡ part_line h ++ after)
part_begins bytes h p ps rest before =
    let more = flat_map (whole_part h) ps in
    (_, before.spelled ∙ append_assoc (whole_part h p) more rest ∙ part_cut h p (more ++ rest))

-- What is wrong where good parts end.
module _ (h : Header) (parts : List (List Item)) (rest : List ℕ) where
  record HeaderSays (line : ℕ) (cause : MergeCause) : Type 0 where
    kind : (LacksPart rest × (cause ≡ Form)) ⊎ (BeginsOtherwise h rest × (cause ≡ OtherHeader))
    at_line : line ≡ 1 + lines_of parts
    some : rest ≢ []

  record PartSays (line : ℕ) (cause : MergeCause) : Type 0 where
    items : List Item
    inside : List ℕ
    good : AreGoodItems h items
    same : rest ≡ part_line h ++ (texts items ++ inside)
    says : InsideSays h parts items inside line cause

  abbrev Says : ℕ → MergeCause → Type 0
  Says line cause = HeaderSays line cause ⊎ PartSays line cause

  says_ends : IsPartHeader h → (line : ℕ) (cause : MergeCause) → Says line cause → IsPartsEnd h rest
  says_ends is line cause (inl k) = by_kind k.kind
    where
      by_kind : (LacksPart rest × (cause ≡ Form)) ⊎ (BeginsOtherwise h rest × (cause ≡ OtherHeader)) → IsPartsEnd h rest
      by_kind (inl lacks) = lack_ends h is rest lacks.0
      by_kind (inr begins) = other_ends h is rest begins.0
  says_ends is line cause (inr k) =
      inside_ends h k.items k.inside rest k.good (inside_stops h parts k.items k.inside line cause k.says)
      (no_whole h parts k.items k.inside line cause k.says) k.same

  header_same : (c d : MergeCause) → (LacksPart rest × (c ≡ Form)) ⊎ (BeginsOtherwise h rest × (c ≡ OtherHeader))
      → (LacksPart rest × (d ≡ Form)) ⊎ (BeginsOtherwise h rest × (d ≡ OtherHeader)) → c ≡ d
  header_same c d (inl a) (inl b) = a.1 ∙ sym b.1
  header_same c d (inl a) (inr b) = absurd (a.0 b.0.other b.0.after b.0.is_header b.0.spelled)
  header_same c d (inr a) (inl b) = absurd (b.0 a.0.other a.0.after a.0.is_header a.0.spelled)
  header_same c d (inr a) (inr b) = a.1 ∙ sym b.1

  no_header : IsPartHeader h → (l m : ℕ) (c d : MergeCause) → HeaderSays l c → PartSays m d → ⊥
  no_header is l m c d a b = by_kind a.kind
    where
      by_kind : (LacksPart rest × (c ≡ Form)) ⊎ (BeginsOtherwise h rest × (c ≡ OtherHeader)) → ⊥
      by_kind (inl lacks) = lacks.0 h (texts b.items ++ b.inside) is b.same
      by_kind (inr begins) =
          begins.0.differs
          (one_part begins.0.other h begins.0.after (texts b.items ++ b.inside) begins.0.is_header is
          (sym begins.0.spelled ∙ b.same)).header

  part_same : (l m : ℕ) (c d : MergeCause) → PartSays l c → PartSays m d → (l ≡ m) × (c ≡ d)
  part_same l m c d a b =
      let text = append_cancel_left (part_line h) (texts b.items ++ b.inside) (texts a.items ++ a.inside)
      (sym b.same ∙ a.same) in
      let one = one_items h b.items a.items b.inside a.inside b.good a.good text
      (inside_stops h parts b.items b.inside m d b.says) (inside_stops h parts a.items a.inside l c a.says) in
      let listed = subst (λ xs. InsideSays h parts xs b.inside m d) one.list b.says in
      let says = subst (λ t. InsideSays h parts a.items t m d) one.text listed in
      let same = inside_same h parts a.items a.inside l m c d a.says says in
      (same.line, same.cause)

  one_says : IsPartHeader h → (l m : ℕ) (c d : MergeCause) → Says l c → Says m d → (l ≡ m) × (c ≡ d)
  one_says is l m c d (inl a) (inl b) = (a.at_line ∙ sym b.at_line, header_same c d a.kind b.kind)
  one_says is l m c d (inl a) (inr b) = absurd (no_header is l m c d a b)
  one_says is l m c d (inr a) (inl b) = absurd (no_header is m l d c b a)
  one_says is l m c d (inr a) (inr b) = part_same l m c d a b

  says_some : (line : ℕ) (cause : MergeCause) → Says line cause → rest ≢ []
  says_some line cause (inl k) none = k.some none
  says_some line cause (inr k) none =
      let long = length-append (part_line h) (texts k.items ++ k.inside) in
      omega (arith, ap length (sym none ∙ k.same), long)

-- What is wrong with bytes.
module _ (bytes : List ℕ) where
  abbrev IsBlank : ℕ → MergeCause → Type 0
  IsBlank line cause = LacksPart bytes × (line ≡ 1) × (cause ≡ Form)

  record HasStop (line : ℕ) (cause : MergeCause) : Type 0 where
    header : Header
    parts : List (List Item)
    rest : List ℕ
    point : IsPoint bytes header parts rest
    says : Says header parts rest line cause

  abbrev Kind : ℕ → MergeCause → Type 0
  Kind line cause = IsBlank line cause ⊎ HasStop line cause

  header_stop : (h : Header) (p : List Item) (ps : List (List Item)) (rest : List ℕ) (line : ℕ) (cause : MergeCause)
      → AreGoodBefore bytes h (p ∷ ps) rest → HeaderSays h (p ∷ ps) rest line cause → HasStop line cause
  header_stop h p ps rest line cause before says =
      let begins = part_begins bytes h p ps rest before in
      record {
        header = h;
        parts = p ∷ ps;
        rest = rest;
        point = record {
          before = before;
          ends = says_ends h (p ∷ ps) rest before.header line cause (inl says);
          after = begins.0;
          begins = begins.1;
        };
        says = inl says;
      }

  lack_kind : (h : Header) (parts : List (List Item)) (rest : List ℕ) (line : ℕ) → AreGoodBefore bytes h parts rest
      → (parts ≡ []) ⊎ (rest ≢ []) → LacksPart rest → line ≡ 1 + lines_of parts → Kind line Form
  lack_kind h [] rest line before needed lacks at =
      inl (subst LacksPart (sym before.spelled) lacks, at, refl)
  lack_kind h (p ∷ ps) rest line before (inl none) lacks at = absurd (omega (arith, ap length none))
  lack_kind h (p ∷ ps) rest line before (inr some) lacks at =
      inr (header_stop h p ps rest line Form before (record { kind = inl (lacks, refl); at_line = at; some = some }))

  other_kind : (h : Header) (parts : List (List Item)) (rest : List ℕ) (line : ℕ) → AreGoodBefore bytes h parts rest
      → parts ≢ [] → BeginsOtherwise h rest → line ≡ 1 + lines_of parts → Kind line OtherHeader
  other_kind h [] rest line before later begins at = absurd (later refl)
  other_kind h (p ∷ ps) rest line before later begins at =
      let some : rest ≢ [] =
      λ none. omega
      (arith, ap length (sym none ∙ begins.spelled), length-append (part_line begins.other) begins.after) in
      inr (header_stop h p ps rest line OtherHeader before
      (record { kind = inr (begins, refl); at_line = at; some = some }))

  inside_begins : (h : Header) (parts : List (List Item)) (inside : List ℕ)
      → AreGoodBefore bytes h parts (part_line h ++ inside)
      → (after : List ℕ) × (bytes ≡ part_line h ++ after)
  inside_begins h [] inside before = (inside, before.spelled)
  inside_begins h (p ∷ ps) inside before = part_begins bytes h p ps (part_line h ++ inside) before

  inside_kind : (h : Header) (parts : List (List Item)) (items : List Item) (inside : List ℕ) (line : ℕ)
      (cause : MergeCause)
      → AreGoodSoFar bytes h parts items inside → InsideSays h parts items inside line cause → Kind line cause
  inside_kind h parts items inside line cause so_far says =
      let rest = part_line h ++ (texts items ++ inside) in
      let begins = inside_begins h parts (texts items ++ inside) so_far.before in
      let part : PartSays h parts rest line cause =
      record { items = items; inside = inside; good = so_far.good; same = refl; says = says } in
      inr (record {
        header = h;
        parts = parts;
        rest = rest;
        point = record {
          before = so_far.before;
          ends = says_ends h parts rest so_far.before.header line cause (inr part);
          after = begins.0;
          begins = begins.1;
        };
        says = inr part;
      })

  item_flaw : (line : ℕ) (cause : MergeCause) → HasFlawedItem bytes line cause → Kind line cause
  item_flaw line cause k =
      inside_kind k.header k.parts k.items (item_text 2 k.item ++ k.after) line cause k.so_far
      (inr (inl (record {
        item = k.item;
        after = k.after;
        is_item = k.is_item;
        same = refl;
        wrong = k.cause_is;
        at_line = k.at_line;
      })))

  kind : (line : ℕ) (cause : MergeCause) → IsFirstFlawOf bytes line cause → Kind line cause
  kind line Form (inl k) = lack_kind k.header k.parts k.rest line k.before k.needed k.lacks k.at_line
  kind line Form (inr k) =
      inside_kind k.header k.parts k.items k.rest line Form k.so_far
      (inl (record { lines = k.lines; unfit = k.unfit; at_line = k.at_line; cause_is = refl }))
  kind line OtherHeader k = other_kind k.header k.parts k.rest line k.before k.later k.begins k.at_line
  kind line Order k = item_flaw line Order k
  kind line Length k = item_flaw line Length k
  kind line Rank k = item_flaw line Rank k
  kind line Entry k = item_flaw line Entry k
  kind line Low k = item_flaw line Low k
  kind line High k = item_flaw line High k
  kind line Count k =
      inside_kind k.header k.parts k.items (end_line k.count ++ k.after) line Count k.so_far
      (inr (inr (record {
        count = k.count;
        after = k.after;
        number = k.number;
        same = refl;
        differs = k.differs;
        at_line = k.at_line;
        cause_is = refl;
      })))

  same_stop : (l m : ℕ) (c d : MergeCause) → HasStop l c → HasStop m d → (l ≡ m) × (c ≡ d)
  same_stop l m c d a b =
      let one = one_point bytes b.header a.header b.parts a.parts b.rest a.rest b.point a.point in
      let s1 = subst (λ h. Says h b.parts b.rest m d) one.header b.says in
      let s2 = subst (λ ps. Says a.header ps b.rest m d) one.same.list s1 in
      let s3 = subst (λ r. Says a.header a.parts r m d) one.same.text s2 in
      one_says a.header a.parts a.rest a.point.before.header l m c d a.says s3

  same_flaws : (l m : ℕ) (c d : MergeCause) → Kind l c → Kind m d → (l ≡ m) × (c ≡ d)
  same_flaws l m c d (inl a) (inl b) = (a.1 ∙ sym b.1, a.2 ∙ sym b.2)
  same_flaws l m c d (inl a) (inr b) = absurd (a.0 b.header b.point.after b.point.before.header b.point.begins)
  same_flaws l m c d (inr a) (inl b) = absurd (b.0 a.header a.point.after a.point.before.header a.point.begins)
  same_flaws l m c d (inr a) (inr b) = same_stop l m c d a b

  pub one_first_flaw : (l m : ℕ) (c d : MergeCause) → IsFirstFlawOf bytes l c → IsFirstFlawOf bytes m d → (l ≡ m)
      × (c ≡ d)
  one_first_flaw l m c d a b = same_flaws l m c d (kind l c a) (kind m d b)

  -- good parts
  good_point : (h : Header) (parts : List (List Item)) → AreGoodParts bytes h parts → IsPoint bytes h parts []
  good_point h [] good = absurd (good.some refl)
  good_point h (p ∷ ps) good =
      let parts = p ∷ ps in
      let before : AreGoodBefore bytes h parts [] = record {
        header = good.header;
        good = good.good;
        spelled = good.spelled ∙ sym (append-nil (flat_map (whole_part h) parts));
      } in
      let begins = part_begins bytes h p ps [] before in
      record { before = before; ends = nothing_ends h [] refl; after = begins.0; begins = begins.1 }

  pub one_good : (h g : Header) (ps qs : List (List Item)) → AreGoodParts bytes h ps → AreGoodParts bytes g qs
      → (h ≡ g) × (ps ≡ qs)
  one_good h g ps qs a b =
      let one = one_point bytes h g ps qs [] [] (good_point h ps a) (good_point g qs b) in (one.header, one.same.list)

  no_kind : (h : Header) (parts : List (List Item)) → IsPoint bytes h parts [] → (line : ℕ) (cause : MergeCause)
      → Kind line cause → ⊥
  no_kind h parts point line cause (inl k) = k.0 h point.after point.before.header point.begins
  no_kind h parts point line cause (inr k) =
      let one = one_point bytes k.header h k.parts parts k.rest [] k.point point in
      says_some k.header k.parts k.rest line cause k.says one.same.text

  pub no_first_flaw : (h : Header) (parts : List (List Item)) → AreGoodParts bytes h parts
      → (line : ℕ) (cause : MergeCause)
      → IsFirstFlawOf bytes line cause → ⊥
  no_first_flaw h parts good line cause k = no_kind h parts (good_point h parts good) line cause (kind line cause k)
