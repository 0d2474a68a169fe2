-- Good parts of maps, one after another (`AreGoodParts`): of one order and one scale, each with certified
-- items whose angles never fall. Source: this project's choice.
use Rattle.std.specs.Prelude.{◌≡◌, ◌≢◌, ℕ, List, [], All, length}
use Rattle.std.specs.List.{AllPairs, flat_map}
use Rattle.ce_angle.specs.Farey.{IsAngleUpTo}
use Rattle.ce_angle.specs.Order.{IsBelow}
use Rattle.ce_check.specs.GoodMap.{IsCertified}
use Rattle.ce_map.specs.Digits.{IsNumber}
use Rattle.ce_map.specs.Grammar.{Header, Item, IsItem}
use Rattle.ce_map.specs.PartGrammar.{IsPartHeader, part_text}

-- No angle is below an earlier one.
abbrev pub NeverFall : List Item → Type 0
NeverFall items = AllPairs (λ i j. ¬ (IsBelow j.angle i.angle)) items

-- Items are good: at angles up to the order that never fall, each with a certificate that holds.
pub record AreGoodItems (h : Header) (items : List Item) : Type 0 where
  pub each : All IsItem items
  pub angles : All (λ item. IsAngleUpTo h.order item.angle) items
  pub certified : All (IsCertified h.exponent) items
  pub order : NeverFall items

-- A good part has good items, as many as its end tells.
pub record IsGoodPart (h : Header) (items : List Item) : Type 0 where
  pub good : AreGoodItems h items
  pub number : IsNumber (length items)

abbrev pub whole_part : Header → List Item → List ℕ
whole_part h items = part_text h items (length items)

-- One or more good parts of one order and one scale.
pub record AreGoodParts (bytes : List ℕ) (h : Header) (parts : List (List Item)) : Type 0 where
  pub header : IsPartHeader h
  pub some : parts ≢ []
  pub spelled : bytes ≡ flat_map (whole_part h) parts
  pub good : All (IsGoodPart h) parts
