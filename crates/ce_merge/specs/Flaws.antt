-- The first flaw of bytes that are no good parts (`IsFirstFlawOf`), by what stands before it: good parts,
-- and perhaps a header and good items of another. Good parts have none (`good_parts_have_no_flaw`), and
-- all other bytes have one (`bytes_are_good_parts_or_have_a_flaw`, `bytes_have_one_flaw`). Source: this
-- project's choice.
use Rattle.std.specs.Prelude.{◌≡◌, ◌≢◌, ◌⊎◌, ◌+◌, ◌*◌, ℕ, List, [], ◌++◌, All, length}
use Rattle.std.specs.List.{flat_map, sum_by}
use Rattle.ce_angle.specs.Farey.{IsAngleUpTo}
use Rattle.ce_angle.specs.Fraction.{Fraction}
use Rattle.ce_angle.specs.Order.{IsBelow}
use Rattle.ce_cert.specs.declared.certificate.Flaw.TheVariants as flaw
use Rattle.ce_check.specs.Flaws.{HasFlaw}
use Rattle.ce_map.specs.Digits.{IsNumber}
use Rattle.ce_map.specs.Fits.{IsUnfit}
use Rattle.ce_map.specs.Grammar.{Header, Item, IsItem, item_text, end_line}
use Rattle.ce_map.specs.PartGrammar.{IsPartHeader, part_line, LacksPart}
use Rattle.ce_merge.specs.Parts.{AreGoodItems, IsGoodPart, whole_part}
use Rattle.ce_merge.specs.declared.merged.MergeCause.{MergeCause}
use Rattle.ce_merge.specs.declared.merged.MergeCause.TheVariants.{Form, Header as OtherHeader, Order, Length, Rank}
use Rattle.ce_merge.specs.declared.merged.MergeCause.TheVariants.{Entry, Low, High, Count}

-- how many lines parts have
abbrev pub lines_of : List (List Item) → ℕ
lines_of parts = sum_by (λ items. 2 + 4 * length items) parts

-- Good parts stand at the front, and a rest follows.
pub record AreGoodBefore (bytes : List ℕ) (h : Header) (parts : List (List Item)) (rest : List ℕ) : Type 0 where
  pub header : IsPartHeader h
  pub good : All (IsGoodPart h) parts
  pub spelled : bytes ≡ flat_map (whole_part h) parts ++ rest

-- Good parts, and then the header and the first items of another one, stand at the front.
pub record AreGoodSoFar (bytes : List ℕ) (h : Header) (parts : List (List Item)) (items : List Item) (rest : List ℕ)
    : Type 0 where
  pub before : AreGoodBefore bytes h parts (part_line h ++ (flat_map (item_text 2) items ++ rest))
  pub good : AreGoodItems h items

-- the line after good parts, a header and so many items
abbrev pub line_in : List (List Item) → List Item → ℕ
line_in parts items = 2 + lines_of parts + 4 * length items

-- A fraction is an angle up to the order, and not below any earlier one of its part.
pub record MayFollow (order : ℕ) (items : List Item) (angle : Fraction) : Type 0 where
  pub up : IsAngleUpTo order angle
  pub after : All (λ item. ¬ (IsBelow angle item.angle)) items

-- what is wrong with an item after others of its part, where the order and the exponent are known
abbrev pub IsItemCause : ℕ → ℕ → List Item → Item → MergeCause → Type 0
IsItemCause order exponent items item Order = ¬ (MayFollow order items item.angle)
IsItemCause order exponent items item Length = MayFollow order items item.angle × HasFlaw exponent item flaw.Length
IsItemCause order exponent items item Rank = MayFollow order items item.angle × HasFlaw exponent item flaw.Rank
IsItemCause order exponent items item Entry = MayFollow order items item.angle × HasFlaw exponent item flaw.Entry
IsItemCause order exponent items item Low = MayFollow order items item.angle × HasFlaw exponent item flaw.Low
IsItemCause order exponent items item High = MayFollow order items item.angle × HasFlaw exponent item flaw.High
IsItemCause order exponent items item cause = ⊥

-- No part begins where one has to: at the start, or where bytes are left after a part.
pub record HasNoPart (bytes : List ℕ) (line : ℕ) : Type 0 where
  pub header : Header
  pub parts : List (List Item)
  pub rest : List ℕ
  pub before : AreGoodBefore bytes header parts rest
  pub needed : (parts ≡ []) ⊎ (rest ≢ [])
  pub lacks : LacksPart rest
  pub at_line : line ≡ 1 + lines_of parts

-- A header of a part stands at the front, with another order or scale.
pub record BeginsOtherwise (h : Header) (text : List ℕ) : Type 0 where
  pub other : Header
  pub after : List ℕ
  pub is_header : IsPartHeader other
  pub spelled : text ≡ part_line other ++ after
  pub differs : other ≢ h

-- A later part has another order or scale.
pub record HasOtherHeader (bytes : List ℕ) (line : ℕ) : Type 0 where
  pub header : Header
  pub parts : List (List Item)
  pub rest : List ℕ
  pub before : AreGoodBefore bytes header parts rest
  pub later : parts ≢ []
  pub begins : BeginsOtherwise header rest
  pub at_line : line ≡ 1 + lines_of parts

pub record HasUnfitLine (bytes : List ℕ) (line : ℕ) : Type 0 where
  pub header : Header
  pub parts : List (List Item)
  pub items : List Item
  pub rest : List ℕ
  pub lines : ℕ
  pub so_far : AreGoodSoFar bytes header parts items rest
  pub unfit : IsUnfit 2 rest lines
  pub at_line : line ≡ line_in parts items + lines

pub record HasFlawedItem (bytes : List ℕ) (line : ℕ) (cause : MergeCause) : Type 0 where
  pub header : Header
  pub parts : List (List Item)
  pub items : List Item
  pub item : Item
  pub after : List ℕ
  pub so_far : AreGoodSoFar bytes header parts items (item_text 2 item ++ after)
  pub is_item : IsItem item
  pub cause_is : IsItemCause header.order header.exponent items item cause
  pub at_line : line ≡ line_in parts items

pub record HasOtherCount (bytes : List ℕ) (line : ℕ) : Type 0 where
  pub header : Header
  pub parts : List (List Item)
  pub items : List Item
  pub count : ℕ
  pub after : List ℕ
  pub so_far : AreGoodSoFar bytes header parts items (end_line count ++ after)
  pub number : IsNumber count
  pub differs : count ≢ length items
  pub at_line : line ≡ line_in parts items

-- The first flaw of a text in the order of its lines.
abbrev pub IsFirstFlawOf : List ℕ → ℕ → MergeCause → Type 0
IsFirstFlawOf bytes line Form = HasNoPart bytes line ⊎ HasUnfitLine bytes line
IsFirstFlawOf bytes line OtherHeader = HasOtherHeader bytes line
IsFirstFlawOf bytes line Count = HasOtherCount bytes line
IsFirstFlawOf bytes line cause = HasFlawedItem bytes line cause
