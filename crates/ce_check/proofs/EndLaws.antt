-- What the loop finds where an end stands.
use Rattle.std.proofs.Common.{◌≡◌, ◌≢◌, ◌+◌, ℕ, List, [], ◌++◌, length, map, Option, Some, None, refl}
use Rattle.std.proofs.Common.{sym, ap, subst, ◌∙◌, arith, append_assoc, inr, Bool, true, false, not}
use Rattle.ce_angle.specs.Fraction.{Fraction}
use Rattle.std.specs.Option.{is_none, is_some}
use Rattle.std.proofs.lemmas.List.{append-nil}
use Rattle.std.specs.List.{flat_map}
use Rattle.ce_angle.specs.Farey.{AreAnglesUpTo}
use Rattle.ce_map.specs.Grammar.{header_line, item_text, end_line, map_text}
use Rattle.ce_map.specs.Walk.{Walk, left_of, IsEndStep}
use Rattle.ce_check.specs.ChecksInside.{expected, IsChecking, IsEndLook}
use Rattle.ce_check.specs.Flaws.{HasFlawedEnd, IsEndCause}
use Rattle.ce_check.specs.Verdicts.{HasGoodMap, IsVerdict}
use Rattle.ce_check.specs.declared.verdict.Verdict.{Verdict}
use Rattle.ce_check.specs.declared.verdict.Verdict.TheVariants.{Accepted, Refused}
use Rattle.ce_check.specs.declared.verdict.Cause.{Cause}
use Rattle.ce_check.specs.declared.verdict.Cause.TheVariants.{Form, Order, Missing, Length, Rank, Entry, Low, High}
use Rattle.ce_check.specs.declared.verdict.Cause.TheVariants.{Count, Tail}

is_none_true : (next : Option Fraction) → is_none next ≡ true → next ≡ None
is_none_true None h = refl
is_none_true (Some x) h = absurd (cc)

some_left : (next : Option Fraction) (angles : List Fraction) → is_none next ≡ false → expected next ++ angles ≢ []
some_left None angles h same = absurd (cc)
some_left (Some x) angles h same = absurd (cc)

no_left : (next : Option Fraction) (angles : List Fraction) → (next ≡ None → angles ≡ []) → is_none next ≡ true
    → expected next ++ angles ≡ []
no_left next angles ended h =
    let none = is_none_true next h in
    ap (λ n. expected n ++ angles) none ∙ ended none

module _ (order exponent : ℕ) (w v : Walk) (next : Option Fraction) (angles : List Fraction) (count line told : ℕ)
    (k : IsChecking order exponent w (expected next ++ angles) count) (s : IsEndStep w line told v) (ended : next ≡ None
    → angles ≡ []) where
  end_spelled : w.bytes ≡ header_line k.header ++ (flat_map (item_text k.header.version) k.items ++
      (end_line told ++ left_of v))
  end_spelled =
      k.front.spelled ∙ ap (λ l. header_line k.header ++ (flat_map (item_text k.header.version) k.items ++ l)) s.spelled

  end_flaw : (at lines : ℕ) (cause : Cause) → at ≡ w.line + lines
      → IsEndCause (expected next ++ angles) (length k.items) told (left_of v) cause lines
      → HasFlawedEnd w.bytes at cause
  end_flaw at lines cause place h = record {
    header = k.header;
    items = k.items;
    left = expected next ++ angles;
    count = told;
    after = left_of v;
    lines = lines;
    front = record {
      header = k.front.header;
      each = k.front.each;
      spelled = end_spelled;
      angles = k.front.angles;
      certified = k.front.certified;
    };
    number = s.number;
    cause_is = h;
    at_line = omega (arith, place, k.at_line);
  }

  good : is_none next ≡ true → told ≡ count → left_of v ≡ [] → HasGoodMap w.bytes count
  good complete same nothing =
      let told_is : told ≡ length k.items = omega (arith, k.counted) in
      let whole : w.bytes ≡ map_text k.header k.items (length k.items) =
      end_spelled
      ∙ ap (λ l. header_line k.header ++ (flat_map (item_text k.header.version) k.items ++ (end_line told ++ l)))
      nothing
      ∙ ap (λ l. header_line k.header ++ (flat_map (item_text k.header.version) k.items ++ l))
      (append-nil (end_line told))
      ∙ ap (λ n. header_line k.header ++ (flat_map (item_text k.header.version) k.items ++ end_line n)) told_is
      ∙ sym (append_assoc (header_line k.header) (flat_map (item_text k.header.version) k.items)
      (end_line (length k.items))) in
      let none : map (λ i. i.angle) k.items ++ (expected next ++ angles) ≡ map (λ i. i.angle) k.items =
      ap (λ l. map (λ i. i.angle) k.items ++ l) (no_left next angles ended complete)
      ∙ append-nil (map (λ i. i.angle) k.items) in
      record {
        header = k.header;
        items = k.items;
        good = record {
          spelled =
              record {
                spelled = whole;
                header = k.front.header;
                each = k.front.each;
                end = omega (arith, s.number, told_is);
              };
          angles = subst (AreAnglesUpTo k.header.order) none k.front.angles;
          certified = k.front.certified;
        };
        counted = k.counted;
      }

  pub end_verdict : (complete : Bool) (verdict : Verdict) → complete ≡ is_none next
      → IsEndLook complete count told line v verdict → IsVerdict w.bytes verdict
  end_verdict complete (Accepted n) tells h =
      subst (HasGoodMap w.bytes) (sym h.2) (good (sym tells ∙ h.0) h.1 h.3)
  end_verdict complete (Refused at Missing) tells h =
      inr (end_flaw at 0 Missing (omega (arith, h.1, s.at_line)) (some_left next angles (sym tells ∙ h.0), refl))
  end_verdict complete (Refused at Count) tells h =
      let other : told ≢ length k.items = λ same. h.1 (omega (arith, k.counted)) in
      inr (end_flaw at 0 Count (omega (arith, h.2, s.at_line)) (
        no_left next angles ended (sym tells ∙ h.0),
        other,
        refl,
      ))
  end_verdict complete (Refused at Tail) tells h =
      let after : v.line ≡ w.line + 1 = ap (λ u. u.line) s.after in
      inr (end_flaw at 1 Tail (omega (arith, h.3)) (
        no_left next angles ended (sym tells ∙ h.0),
        omega (arith, k.counted, h.1),
        h.2,
        refl,
      ))
  end_verdict complete (Refused at Form) tells h = absurd h
  end_verdict complete (Refused at Order) tells h = absurd h
  end_verdict complete (Refused at Length) tells h = absurd h
  end_verdict complete (Refused at Rank) tells h = absurd h
  end_verdict complete (Refused at Entry) tells h = absurd h
  end_verdict complete (Refused at Low) tells h = absurd h
  end_verdict complete (Refused at High) tells h = absurd h

pub none_tells : {X : Type 0} (o : Option X) (b : Bool) → is_some o ≡ not b → b ≡ is_none o
none_tells o true h = sym (ap not h)
none_tells o false h = sym (ap not h)
