-- The first flaw of a text that is no good map (`IsFirstFlawOf`), by what stands before it: a header and
-- certified items at the first angles of the order (`IsGoodFront`). Then comes a line that does not fit,
-- an item with a cause, or an end with one. Good maps have none (`good_maps_have_no_flaw`), and all other
-- texts have one (`each_text_has_a_verdict`). Source: this project's choice.
use Rattle.std.specs.Prelude.{◌≡◌, ◌≢◌, ◌⊎◌, ◌+◌, ◌*◌, ℕ, List, [], ◌∷◌, ◌++◌, All, length, map}
use Rattle.std.specs.List.{flat_map}
use Rattle.ce_angle.specs.Farey.{AreAnglesUpTo, IsAngleUpTo}
use Rattle.ce_angle.specs.Fraction.{Fraction}
use Rattle.ce_angle.specs.Order.{IsBelow}
use Rattle.ce_cert.specs.Evidence.{IsFirstFlaw}
use Rattle.ce_cert.specs.declared.certificate.Flaw.{Flaw}
use Rattle.ce_check.specs.GoodMap.{IsShortOrbitOf, IsCertified}
use Rattle.ce_thurston.specs.Indices.{rows_at}
use Rattle.ce_check.specs.declared.verdict.Cause.{Cause}
use Rattle.ce_check.specs.declared.verdict.Cause.TheVariants.{Form, Order, Missing, Length, Rank, Entry, Low, High}
use Rattle.ce_check.specs.declared.verdict.Cause.TheVariants.{Count, Tail}
use Rattle.ce_cert.specs.declared.certificate.Flaw.TheVariants as flaw
use Rattle.ce_map.specs.Digits.{IsNumber}
use Rattle.ce_map.specs.Fits.{LacksHeader, IsUnfit}
use Rattle.ce_map.specs.Grammar.{Header, IsHeader, header_line, Item, IsItem, item_text, end_line}
use Rattle.ce_orbit.specs.Orbit.{ForwardOrbit}

-- A header and good items stand at the front: the first angles of the header's order, each certified.
-- What is left are the other angles of that order, and the rest of the text.
pub record IsGoodFront (bytes : List ℕ) (h : Header) (items : List Item) (left : List Fraction)
    (rest : List ℕ) : Type 0 where
  pub header : IsHeader h
  pub each : All IsItem items
  pub spelled : bytes ≡ header_line h ++ (flat_map (item_text h.version) items ++ rest)
  pub angles : AreAnglesUpTo h.order (map (λ item. item.angle) items ++ left)
  pub certified : All (IsCertified h.exponent) items

-- the line after a header and so many items
abbrev pub line_after : List Item → ℕ
line_after items = 2 + 4 * length items

-- A fraction is the next angle that is expected.
abbrev pub IsExpected : List Fraction → Fraction → Type 0
IsExpected [] angle = ⊥
IsExpected (e ∷ es) angle = e ≡ angle

-- An angle is expected, and a fraction is an angle up to the order above it.
abbrev pub IsAbove : ℕ → List Fraction → Fraction → Type 0
IsAbove order [] angle = ⊥
IsAbove order (e ∷ es) angle = IsAngleUpTo order angle × IsBelow e angle

-- The certificate of an angle with an orbit of at most 128 angles has this first flaw.
pub record HasFlaw (exponent : ℕ) (item : Item) (f : Flaw) : Type 0 where
  pub orbit : ForwardOrbit
  pub short : IsShortOrbitOf item.angle orbit
  pub first : IsFirstFlaw (rows_at orbit exponent) item.evidence f

-- what is wrong with an item, where the order and the exponent of the scale are known
abbrev pub IsItemCause : ℕ → ℕ → List Fraction → Item → Cause → Type 0
IsItemCause order exponent left item Missing = IsAbove order left item.angle
IsItemCause order exponent left item Order = ¬ (IsExpected left item.angle) × ¬ (IsAbove order left item.angle)
IsItemCause order exponent left item Length = IsExpected left item.angle × HasFlaw exponent item flaw.Length
IsItemCause order exponent left item Rank = IsExpected left item.angle × HasFlaw exponent item flaw.Rank
IsItemCause order exponent left item Entry = IsExpected left item.angle × HasFlaw exponent item flaw.Entry
IsItemCause order exponent left item Low = IsExpected left item.angle × HasFlaw exponent item flaw.Low
IsItemCause order exponent left item High = IsExpected left item.angle × HasFlaw exponent item flaw.High
IsItemCause order exponent left item cause = ⊥

-- what is wrong with an end, where so many items and then a text stand, and in which line after it
abbrev pub IsEndCause : List Fraction → ℕ → ℕ → List ℕ → Cause → ℕ → Type 0
IsEndCause left items count after Missing lines = (left ≢ []) × (lines ≡ 0)
IsEndCause left items count after Count lines = (left ≡ []) × (count ≢ items) × (lines ≡ 0)
IsEndCause left items count after Tail lines = (left ≡ []) × (count ≡ items) × (after ≢ []) × (lines ≡ 1)
IsEndCause left items count after cause lines = ⊥

-- Good items stand before a part that has a flaw.
pub record HasUnfitLine (bytes : List ℕ) (line : ℕ) : Type 0 where
  pub header : Header
  pub items : List Item
  pub left : List Fraction
  pub rest : List ℕ
  pub lines : ℕ
  pub front : IsGoodFront bytes header items left rest
  pub unfit : IsUnfit header.version rest lines
  pub at_line : line ≡ line_after items + lines

pub record HasFlawedItem (bytes : List ℕ) (line : ℕ) (cause : Cause) : Type 0 where
  pub header : Header
  pub items : List Item
  pub left : List Fraction
  pub item : Item
  pub after : List ℕ
  pub front : IsGoodFront bytes header items left (item_text header.version item ++ after)
  pub is_item : IsItem item
  pub cause_is : IsItemCause header.order header.exponent left item cause
  pub at_line : line ≡ line_after items

pub record HasFlawedEnd (bytes : List ℕ) (line : ℕ) (cause : Cause) : Type 0 where
  pub header : Header
  pub items : List Item
  pub left : List Fraction
  pub count : ℕ
  pub after : List ℕ
  pub lines : ℕ
  pub front : IsGoodFront bytes header items left (end_line count ++ after)
  pub number : IsNumber count
  pub cause_is : IsEndCause left (length items) count after cause lines
  pub at_line : line ≡ line_after items + lines

-- The first flaw of a text in the order of its lines.
abbrev pub IsFirstFlawOf : List ℕ → ℕ → Cause → Type 0
IsFirstFlawOf bytes line Form = (LacksHeader bytes × (line ≡ 1)) ⊎ HasUnfitLine bytes line
IsFirstFlawOf bytes line cause = HasFlawedItem bytes line cause ⊎ HasFlawedEnd bytes line cause
