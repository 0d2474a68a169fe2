-- Parts are read one after another: where a part ends, another one begins, or its header is wrong.
use Rattle.std.proofs.Common.{◌≡◌, ◌≢◌, ◌≤◌, ◌+◌, ◌==◌, ℕ, true, not, List, [], length}
use Rattle.std.proofs.Common.{drop}
use Rattle.std.proofs.Common.{refl, sym, ap, subst, arith, length-append, length-drop, inl, inr}
use Rattle.std.specs.List.{AllZip, flat_map}
use Rattle.std.proofs.lemmas.Bool.Decides.{nat_tests}
use Rattle.std.proofs.lemmas.List.{append-nil}
use Rattle.std.proofs.lemmas.List.Elements.{All-nil}
use Rattle.ce_angle.specs.Farey.{IsAngleUpTo}
use Rattle.ce_check.specs.GoodMap.{IsCertified}
use Rattle.ce_map.specs.Grammar.{Header, IsItem}
use Rattle.ce_map.specs.PartGrammar.{IsPartAt, IsPartHeader, LacksPart}
use Rattle.ce_map.specs.Walk.{parts_from}
use Rattle.ce_merge.specs.Best.{all_of}
use Rattle.ce_merge.specs.Flaws.{AreGoodBefore, IsFirstFlawOf}
use Rattle.ce_merge.specs.Flaws.{BeginsOtherwise}
use Rattle.ce_merge.specs.Parts.{AreGoodItems, IsGoodPart, whole_part}
use Rattle.ce_merge.specs.ReadingInside.{AreRead, IsEntryOf, IsHeaderCause, IsInPart, IsLastKey}
use Rattle.ce_merge.specs.ReadingInside.{header_at, key_of}
use Rattle.ce_merge.specs.declared.entry.Entry.{Entry}
use Rattle.ce_merge.specs.declared.merged.MergeCause.{MergeCause}
use Rattle.ce_merge.specs.declared.merged.MergeCause.TheVariants.{Form, Header as OtherHeader, Order, Length, Rank}
use Rattle.ce_merge.specs.declared.merged.MergeCause.TheVariants.{Entry as OtherEntry, Low, High, Count}
use Rattle.ce_merge.proofs.PartTexts.{part_long, parts_long}

-- The header of a later part.
pub begins_otherwise : (bytes : List ℕ) (at order exponent end : ℕ) → IsPartAt bytes at (header_at order exponent) end
    → (o e : ℕ) → header_at order exponent ≢ header_at o e → BeginsOtherwise (header_at o e) (drop at bytes)
begins_otherwise bytes at order exponent end found o e differs = record {
  other = header_at order exponent;
  after = drop end bytes;
  is_header = found.header;
  spelled = found.spelled;
  differs = differs;
}

pub other_number : (m n : ℕ) → true ≡ not (m == n) → m ≢ n
other_number m n differs = grind (arith, nat_tests)

-- Good parts were read.
some_header : IsPartHeader (header_at 1 32)
some_header = record {
  header = record { version = inr refl; some = omega arith; few = omega arith; scale = inl refl };
  second = refl;
}

pub none_good : (h : Header) → AreGoodItems h []
none_good h = record {
  each = All-nil IsItem;
  angles = All-nil (λ item. IsAngleUpTo h.order item.angle);
  certified = All-nil (IsCertified h.exponent);
  order = λ i j d less within. absurd (omega arith);
}

none_last : (h : Header) → IsLastKey h.order [] 0
none_last h = record {
  up = All-nil (λ item. IsAngleUpTo h.order item.angle);
  most = All-nil (λ item. key_of item.angle ≤ 0);
  of_some = inl refl;
}

module _ {h : Header} {bytes : List ℕ} {at line : ℕ} {entries : List Entry} (k : AreRead h bytes at line entries) where
  pub next_few : line ≤ at + 1
  next_few =
      let before = flat_map (whole_part h) k.parts in
      let whole = ap length k.before.spelled in
      let both = length-append before (drop at bytes) in
      let left = length-drop at bytes in
      omega (arith, k.within, k.at_line, parts_long h k.parts, whole, both, left)

  left_some : at ≢ length bytes → drop at bytes ≢ []
  left_some more none = let left = length-drop at bytes in omega (arith, ap length none, left, k.within, more)

  pub wrong_header : (cause : MergeCause) → IsHeaderCause h (drop at bytes) cause → at ≢ length bytes
      → IsFirstFlawOf bytes line cause
  wrong_header Form none more = inl (record {
    header = h;
    parts = k.parts;
    rest = drop at bytes;
    before = k.before;
    needed = inr (left_some more);
    lacks = none;
    at_line = k.at_line;
  })
  wrong_header OtherHeader begins more = record {
    header = h;
    parts = k.parts;
    rest = drop at bytes;
    before = k.before;
    later = k.some;
    begins = begins;
    at_line = k.at_line;
  }
  wrong_header Order wrong more = absurd wrong
  wrong_header Length wrong more = absurd wrong
  wrong_header Rank wrong more = absurd wrong
  wrong_header OtherEntry wrong more = absurd wrong
  wrong_header Low wrong more = absurd wrong
  wrong_header High wrong more = absurd wrong
  wrong_header Count wrong more = absurd wrong

  pub next_part : (end : ℕ) → IsPartAt bytes at h end → IsInPart h (parts_from bytes end (line + 1) 2) entries 0 0
  next_part end found = record {
    parts = k.parts;
    items = [];
    so_far = record {
      before = subst (AreGoodBefore bytes h k.parts) found.spelled k.before;
      good = none_good h;
    };
    within = found.within;
    expects = refl;
    at_line = omega (arith, k.at_line);
    entered = subst (λ l. AllZip (IsEntryOf bytes) l entries) (sym (append-nil (all_of k.parts))) k.entered;
    last_is = none_last h;
    counted = refl;
  }

pub header_further : (bytes : List ℕ) (from : ℕ) (h : Header) (end : ℕ) → IsPartAt bytes from h end → from + 1 ≤ end
header_further bytes from h end found = omega (arith, found.place, part_long h)

pub first_part : (bytes : List ℕ) (h : Header) (end : ℕ) → IsPartAt bytes 0 h end
    → IsInPart h (parts_from bytes end 2 2) [] 0 0
first_part bytes h end found = record {
  parts = [];
  items = [];
  so_far = record {
    before = record { header = found.header; good = All-nil (IsGoodPart h); spelled = found.spelled };
    good = none_good h;
  };
  within = found.within;
  expects = refl;
  at_line = refl;
  entered = tt;
  last_is = none_last h;
  counted = refl;
}

pub no_part : (bytes : List ℕ) → LacksPart bytes → IsFirstFlawOf bytes 1 Form
no_part bytes lacks = inl (record {
  header = header_at 1 32;
  parts = [];
  rest = bytes;
  before = record { header = some_header; good = All-nil (IsGoodPart (header_at 1 32)); spelled = refl };
  needed = inl refl;
  lacks = lacks;
  at_line = refl;
})
