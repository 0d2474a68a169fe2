-- What is found of the items of a map.
use Rattle.std.proofs.Common.{◌≡◌, ◌≤◌, ◌+◌, ℕ, List, [], ◌∷◌, ◌++◌, map, Option, Some, None, IfSome, refl}
use Rattle.std.proofs.Common.{sym, ap, subst, ◌∙◌, arith, append_assoc, length-append, inl}
use Rattle.ce_angle.specs.Fraction.{Fraction}
use Rattle.ce_angle.specs.Farey.{IsAngleUpTo}
use Rattle.ce_orbit.specs.Orbit.{ForwardOrbit}
use Rattle.ce_orbit.proofs.Exists.{within_denominator}
use Rattle.std.specs.Option.{IfNone}
use Rattle.std.proofs.lemmas.Grind.{flat_map-append}
use Rattle.std.proofs.lemmas.List.{append-nil, map-append}
use Rattle.std.specs.List.{All, flat_map}
use Rattle.std.proofs.lemmas.List.Elements.{All-head, All-tail, All-nil, All-cons, All-append}
use Rattle.ce_angle.specs.Farey.{AreAnglesUpTo}
use Rattle.ce_map.specs.Fits.{LacksHeader}
use Rattle.ce_map.specs.Grammar.{header_line, Item, IsItem, item_text}
use Rattle.ce_map.specs.Walk.{Walk, left_of, start_of, IsItemStep, IsUnfitLine}
use Rattle.ce_map.specs.declared.record_view.RecordView.{RecordView}
use Rattle.ce_map.specs.declared.view.Stage.TheVariants.{Parts, Start}
use Rattle.ce_check.specs.ChecksInside.{expected, IsAfterHeader, IsChecking}
use Rattle.ce_check.specs.Flaws.{IsItemCause, IsFirstFlawOf, HasFlawedItem, IsExpected}
use Rattle.ce_check.specs.GoodMap.{IsShortOrbitOf, IsCertified}
use Rattle.ce_check.specs.declared.verdict.Cause.{Cause}
use Rattle.ce_check.specs.declared.verdict.Cause.TheVariants.{Form, Order, Missing, Length, Rank, Entry, Low, High}
use Rattle.ce_check.specs.declared.verdict.Cause.TheVariants.{Count, Tail}
use Rattle.ce_check.proofs.ItemVerdicts.{fraction}

-- angles up to 128 have short orbits
pub short_orbit : (order : ℕ) (angle other : Fraction) → order ≤ 128 → IsAngleUpTo order angle → angle ≡ other
    → (o : ForwardOrbit) × IsShortOrbitOf other o
short_orbit order angle other few is same =
    let has = within_denominator angle is.angle in (
      has.orbit,
      record {
        is_orbit = has.is_orbit;
        of_angle = has.of_angle ∙ same;
        few = omega (arith, has.few, is.small);
      },
    )

pub same_fraction : (angle : Fraction) (num den n d m e : ℕ) → n ≡ num → n ≡ m → m ≡ angle.num → d ≡ den → d ≡ e
    → e ≡ angle.den → angle ≡ fraction num den
same_fraction angle num den n d m e a b c f g h =
    ap (λ x. fraction x angle.den) (sym (sym a ∙ b ∙ c)) ∙ ap (fraction num) (sym (sym f ∙ g ∙ h))

-- what is left of a list of angles when the next one was taken
pub left_same : (next : Option Fraction) (old new : List Fraction) → IfSome next (λ a. old ≡ a ∷ new)
    → IfNone next (old ≡ []) → IfNone next (new ≡ []) → expected next ++ new ≡ old
left_same (Some a) old new some none ended = sym some
left_same None old new some none ended = ended ∙ sym none

pub none_is : {X : Type 0} (o : Option X) (P : Type 0) → IfNone o P → o ≡ None → P
none_is None P h e = h
none_is (Some x) P h e = absurd (cc)

pub next_up : (order : ℕ) (before rest : List Fraction) (next : Option Fraction)
    → All (IsAngleUpTo order) (before ++ (expected next ++ rest)) → IfSome next (IsAngleUpTo order)
next_up order before rest None all = tt
next_up order [] rest (Some e) all = All-head (IsAngleUpTo order) e rest all
next_up order (x ∷ xs) rest (Some e) all =
    next_up order xs rest (Some e) (All-tail (IsAngleUpTo order) x (xs ++ (e ∷ rest)) all)

-- a cause speaks of the next angle alone
pub cause_more : (order exponent : ℕ) (next : Option Fraction) (more : List Fraction) (item : Item) (cause : Cause)
    → (next ≡ None → more ≡ []) → IsItemCause order exponent (expected next) item cause
    → IsItemCause order exponent (expected next ++ more) item cause
cause_more order exponent None more item cause ended h =
    subst (λ l. IsItemCause order exponent l item cause) (sym (ended refl)) h
cause_more order exponent (Some e) more item Form ended h = h
cause_more order exponent (Some e) more item Order ended h = h
cause_more order exponent (Some e) more item Missing ended h = h
cause_more order exponent (Some e) more item Length ended h = h
cause_more order exponent (Some e) more item Rank ended h = h
cause_more order exponent (Some e) more item Entry ended h = h
cause_more order exponent (Some e) more item Low ended h = h
cause_more order exponent (Some e) more item High ended h = h
cause_more order exponent (Some e) more item Count ended h = h
cause_more order exponent (Some e) more item Tail ended h = h

pub item_flaw : (bytes : List ℕ) (line order exponent : ℕ) (left : List Fraction) (item : Item) (cause : Cause)
    → IsItemCause order exponent left item cause → HasFlawedItem bytes line cause → IsFirstFlawOf bytes line cause
item_flaw bytes line order exponent left item Form h flaw = absurd h
item_flaw bytes line order exponent left item Order h flaw = inl flaw
item_flaw bytes line order exponent left item Missing h flaw = inl flaw
item_flaw bytes line order exponent left item Length h flaw = inl flaw
item_flaw bytes line order exponent left item Rank h flaw = inl flaw
item_flaw bytes line order exponent left item Entry h flaw = inl flaw
item_flaw bytes line order exponent left item Low h flaw = inl flaw
item_flaw bytes line order exponent left item High h flaw = inl flaw
item_flaw bytes line order exponent left item Count h flaw = absurd h
item_flaw bytes line order exponent left item Tail h flaw = absurd h

pub same_version : (v u : ℕ) → Parts v ≡ Parts u → v ≡ u
same_version v u h = cc

pub starts : (order exponent : ℕ) (w : Walk) (angles left : List Fraction) → IsAfterHeader order exponent w
    → AreAnglesUpTo order angles → left ≡ angles → IsChecking order exponent w left 0
starts order exponent w angles left h all same =
    let up : AreAnglesUpTo h.header.order left =
    subst (λ l. AreAnglesUpTo h.header.order l) (sym same)
    (subst (λ n. AreAnglesUpTo n angles) (sym h.order_is) all) in
    record {
      header = h.header;
      items = [];
      order_is = h.order_is;
      exponent_is = h.exponent_is;
      front = record {
        header = h.is_header;
        each = All-nil IsItem;
        spelled = h.spelled;
        angles = up;
        certified = All-nil (IsCertified h.header.exponent);
      };
      expects = h.expects;
      at_line = h.at_line;
      counted = refl;
    }

module _ (order exponent : ℕ) (w v : Walk) (next : Option Fraction) (angles : List Fraction) (count : ℕ)
    (k : IsChecking order exponent w (expected next ++ angles) count) where
  pub next_is : IfSome next (IsAngleUpTo order)
  next_is =
      subst (λ n. IfSome next (IsAngleUpTo n)) k.order_is
      (next_up k.header.order (map (λ item. item.angle) k.items) angles next k.front.angles.angles)

  module _ (view : RecordView) (s : IsItemStep w view v) where
    version_is : s.version ≡ k.header.version
    version_is = same_version s.version k.header.version (sym s.expected ∙ k.expects)

    after_spelled : w.bytes ≡ header_line k.header ++ (flat_map (item_text k.header.version) k.items ++
        (item_text k.header.version s.item ++ left_of v))
    after_spelled =
        k.front.spelled ∙ ap (λ l. header_line k.header ++ (flat_map (item_text k.header.version) k.items ++ l))
        (s.spelled ∙ ap (λ u. item_text u s.item ++ left_of v) version_is)

    pub item_refused : (cause : Cause) (bytes : List ℕ) → w.bytes ≡ bytes → (next ≡ None → angles ≡ [])
        → IsItemCause order exponent (expected next) s.item cause → IsFirstFlawOf bytes view.line cause
    item_refused cause bytes same ended h =
        let more = cause_more order exponent next angles s.item cause ended h in
        let at = subst (λ e. IsItemCause k.header.order e (expected next ++ angles) s.item cause) (sym k.exponent_is)
        (subst (λ o. IsItemCause o exponent (expected next ++ angles) s.item cause) (sym k.order_is) more) in
        let flaw : HasFlawedItem w.bytes view.line cause = record {
          header = k.header;
          items = k.items;
          left = expected next ++ angles;
          item = s.item;
          after = left_of v;
          front = record {
            header = k.front.header;
            each = k.front.each;
            spelled = after_spelled;
            angles = k.front.angles;
            certified = k.front.certified;
          };
          is_item = s.is_item;
          cause_is = at;
          at_line = s.at_line ∙ k.at_line;
        } in
        subst (λ b. IsFirstFlawOf b view.line cause) same (item_flaw w.bytes view.line order exponent
        (expected next) s.item cause h flaw)

    pub bytes_stay : v.bytes ≡ w.bytes
    bytes_stay = ap (λ u. u.bytes) s.after

-- one more good item
expected_first : (next : Option Fraction) (angles : List Fraction) (angle : Fraction) → IsExpected (expected next) angle
    → expected next ++ angles ≡ angle ∷ angles
expected_first (Some e) angles angle h = ap (λ a. a ∷ angles) h
expected_first None angles angle h = absurd h

module _ (order exponent : ℕ) (w v : Walk) (next : Option Fraction) (angles : List Fraction) (count : ℕ)
    (k : IsChecking order exponent w (expected next ++ angles) count) (view : RecordView)
    (s : IsItemStep w view v) where
  pub goes_on : (left : List Fraction) → left ≡ angles
      → IsExpected (expected next) s.item.angle × IsCertified exponent s.item
      → IsChecking order exponent v left (count + 1)
  goes_on left same look =
      let h = k.header in
      let items = k.items in
      let item = s.item in
      let text = item_text h.version in
      let version = version_is order exponent w v next angles count k view s in
      let grown : flat_map text (items ++ item ∷ []) ≡ flat_map text items ++ text item =
      flat_map-append text items (item ∷ []) ∙ ap (λ l. flat_map text items ++ l) (append-nil (text item)) in
      let spelled : v.bytes ≡ header_line h ++ (flat_map text (items ++ item ∷ []) ++ left_of v) =
      bytes_stay order exponent w v next angles count k view s
      ∙ after_spelled order exponent w v next angles count k view s
      ∙ ap (λ l. header_line h ++ l) (sym (append_assoc (flat_map text items) (text item) (left_of v)))
      ∙ ap (λ l. header_line h ++ (l ++ left_of v)) (sym grown) in
      let listed : map (λ i. i.angle) items ++ (expected next ++ angles) ≡ map (λ i. i.angle) (items ++ item ∷ [])
      ++ left =
      ap (λ l. map (λ i. i.angle) items ++ l) (expected_first next angles item.angle look.0)
      ∙ sym (append_assoc (map (λ i. i.angle) items) (item.angle ∷ []) angles)
      ∙ ap (λ l. l ++ angles) (sym (map-append (λ (i : Item). i.angle) items (item ∷ [])))
      ∙ ap (λ l. map (λ i. i.angle) (items ++ item ∷ []) ++ l) (sym same) in
      let certified : IsCertified h.exponent item = subst (λ e. IsCertified e item) (sym k.exponent_is) look.1 in
      let many = length-append items (item ∷ []) in
      record {
        header = h;
        items = items ++ item ∷ [];
        order_is = k.order_is;
        exponent_is = k.exponent_is;
        front = record {
          header = k.front.header;
          each = All-append IsItem items (item ∷ []) k.front.each (All-cons IsItem item [] s.is_item (All-nil IsItem));
          spelled = spelled;
          angles = subst (AreAnglesUpTo h.order) listed k.front.angles;
          certified =
              All-append (IsCertified h.exponent) items (item ∷ []) k.front.certified
              (All-cons (IsCertified h.exponent) item [] certified (All-nil (IsCertified h.exponent)));
        };
        expects = ap (λ u. u.stage) s.after ∙ ap Parts version;
        at_line = ap (λ u. u.line) s.after ∙ omega (arith, k.at_line, many);
        counted = omega (arith, k.counted, many);
      }

pub form_first : (w : Walk) (bytes : List ℕ) (line : ℕ) → w ≡ start_of bytes → IsUnfitLine w w.stage line
    → LacksHeader bytes × (line ≡ 1)
form_first w bytes line e h = let first : IsUnfitLine (start_of bytes) Start line =
    subst (λ u. IsUnfitLine u u.stage line) e h in (λ g rest is same. first.0 g rest is same, first.1)
