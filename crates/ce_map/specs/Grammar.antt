-- The grammar of map files, versions 1 and 2. Each part has a spelling, and a text is a map where it is
-- spelled so (`IsMapOf`): `header_line`, then `item_text` of each item, then `end_line`. No reader is
-- spoken of. That a text has one reading is the law `maps_have_one_spelling`, and of each part
-- `headers_`, `items_` and `ends_have_one_spelling`. Source: this project's choice.
use Rattle.std.specs.Prelude.{◌≡◌, ◌⊎◌, ◌<◌, ◌≤◌, ◌==◌, ℕ, List, [], ◌∷◌, ◌++◌, All, length, codes, if◌then◌else◌}
use Rattle.std.specs.Fmt.{decimal}
use Rattle.std.specs.List.{concat, flat_map}
use Rattle.ce_angle.specs.Fraction.{Fraction}
use Rattle.ce_angle.specs.Spelled.{fraction_text}
use Rattle.ce_cert.specs.Certificate.{Evidence}
use Rattle.ce_rows.specs.Limits.{greatest_order}
use Rattle.ce_map.specs.Digits.{IsNumber, numbers_text}

-- the version, the greatest denominator of the angles, and the exponent of the scale
pub record Header : Type 0 where
  pub version : ℕ
  pub order : ℕ
  pub exponent : ℕ

abbrev pub most_order : ℕ → ℕ
most_order version = if version == 1 then 64 else greatest_order

-- Version 1 has the scale 2^32 alone.
pub record IsHeader (h : Header) : Type 0 where
  pub version : (h.version ≡ 1) ⊎ (h.version ≡ 2)
  pub some : 1 ≤ h.order
  pub few : h.order ≤ most_order h.version
  pub scale : (h.exponent ≡ 32) ⊎ ((h.version ≡ 2) × (h.exponent ≡ 48))

abbrev pub scale_text : Header → List ℕ
scale_text h = if h.version == 1 then [] else codes " scale " ++ decimal h.exponent

abbrev pub header_line : Header → List ℕ
header_line h =
    codes "core-entropy-map " ++ decimal h.version ++ codes " order " ++ decimal h.order
    ++ scale_text h ++ codes "\n"

-- a fraction and a certificate; the grammar asks of neither that it holds
pub record Item : Type 0 where
  pub angle : Fraction
  pub evidence : Evidence

-- At least one number stands in a list.
pub record IsList (list : List ℕ) : Type 0 where
  pub some : 0 < length list
  pub small : All IsNumber list

pub record IsItem (item : Item) : Type 0 where
  pub num : IsNumber item.angle.num
  pub den : IsNumber item.angle.den
  pub low : IsNumber item.evidence.low
  pub high : IsNumber item.evidence.high
  pub ranks : IsList item.evidence.ranks
  pub low_rank : IsNumber item.evidence.low_rank
  pub low_vector : IsList item.evidence.low_vector
  pub high_vector : IsList item.evidence.high_vector

-- the base of the entries of vectors; all other numbers are decimal
abbrev pub base_of : ℕ → ℕ
base_of version = if version == 1 then 10 else 16

abbrev pub angle_line : Item → List ℕ
angle_line item =
    codes "angle " ++ fraction_text item.angle
    ++ codes " low " ++ decimal item.evidence.low ++ codes " high " ++ decimal item.evidence.high ++ codes "\n"

abbrev pub ranks_line : Item → List ℕ
ranks_line item = codes "ranks" ++ numbers_text 10 item.evidence.ranks ++ codes "\n"

abbrev pub low_line : ℕ → Item → List ℕ
low_line version item =
    codes "low " ++ decimal item.evidence.low_rank
    ++ numbers_text (base_of version) item.evidence.low_vector ++ codes "\n"

abbrev pub high_line : ℕ → Item → List ℕ
high_line version item = codes "high" ++ numbers_text (base_of version) item.evidence.high_vector ++ codes "\n"

abbrev pub item_lines : ℕ → Item → List (List ℕ)
item_lines version item =
    angle_line item ∷ ranks_line item ∷ low_line version item ∷ high_line version item ∷ []

abbrev pub item_text : ℕ → Item → List ℕ
item_text version item = concat (item_lines version item)

abbrev pub end_line : ℕ → List ℕ
end_line count = codes "end " ++ decimal count ++ codes "\n"

abbrev pub map_text : Header → List Item → ℕ → List ℕ
map_text h items count = header_line h ++ flat_map (item_text h.version) items ++ end_line count

-- A text is a map with these parts.
pub record IsMapOf (bytes : List ℕ) (h : Header) (items : List Item) (count : ℕ) : Type 0 where
  pub spelled : bytes ≡ map_text h items count
  pub header : IsHeader h
  pub each : All IsItem items
  pub end : IsNumber count
