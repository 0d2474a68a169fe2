-- The first line of a text that does not fit: where a header is expected, `LacksHeader`; where an item
-- or an end is, `IsUnfit`. Neither speaks of a reader. One of them or a part stands at the front of each
-- text: the law `each_text_has_a_next_part`. Source: this project's choice.
use Rattle.std.specs.Prelude.{◌≡◌, ◌≢◌, ◌<◌, ◌+◌, ℕ, List, ◌++◌, take}
use Rattle.std.specs.List.{concat}
use Rattle.ce_map.specs.Digits.{IsNumber}
use Rattle.ce_map.specs.Grammar.{Header, IsHeader, header_line, Item, IsItem, item_lines, item_text, end_line}

-- No header stands at the front.
abbrev pub LacksHeader : List ℕ → Type 0
LacksHeader text = (h : Header) (rest : List ℕ) → IsHeader h → text ≢ header_line h ++ rest

abbrev pub LacksEnd : List ℕ → Type 0
LacksEnd text = (count : ℕ) (rest : List ℕ) → IsNumber count → text ≢ end_line count ++ rest

-- The first lines of an item, so many, stand at the front.
pub record HasLines (version : ℕ) (text : List ℕ) (lines : ℕ) : Type 0 where
  pub item : Item
  pub rest : List ℕ
  pub is_item : IsItem item
  pub spelled : text ≡ concat (take lines (item_lines version item)) ++ rest

abbrev pub LacksLines : ℕ → List ℕ → ℕ → Type 0
LacksLines version text lines =
    (item : Item) (rest : List ℕ) → IsItem item → text ≢ concat (take lines (item_lines version item)) ++ rest

-- Where an item or an end is expected, the first lines, so many, fit, and the next one does not.
pub record IsUnfit (version : ℕ) (text : List ℕ) (lines : ℕ) : Type 0 where
  pub few : lines < 4
  pub fits : HasLines version text lines
  pub next : LacksLines version text (lines + 1)
  pub no_end : LacksEnd text

-- A header, an item of a version, or an end stands at the front.
pub record HasHeader (text : List ℕ) : Type 0 where
  pub header : Header
  pub rest : List ℕ
  pub is_header : IsHeader header
  pub spelled : text ≡ header_line header ++ rest

pub record HasItem (version : ℕ) (text : List ℕ) : Type 0 where
  pub item : Item
  pub rest : List ℕ
  pub is_item : IsItem item
  pub spelled : text ≡ item_text version item ++ rest

pub record HasEnd (text : List ℕ) : Type 0 where
  pub count : ℕ
  pub rest : List ℕ
  pub number : IsNumber count
  pub spelled : text ≡ end_line count ++ rest
