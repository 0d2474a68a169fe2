-- The grammar of parts of maps: a header of its own (`part_line`), items of version 2, and an end. Its
-- headers have one spelling by the law `part_headers_have_one_spelling`. Source: this project's choice.
use Rattle.std.specs.Prelude.{◌≡◌, ◌≢◌, ◌≤◌, ◌+◌, ℕ, List, ◌++◌, codes, drop, length}
use Rattle.std.specs.Fmt.{decimal}
use Rattle.std.specs.List.{flat_map}
use Rattle.ce_map.specs.Grammar.{Header, IsHeader, Item, item_text, end_line}

-- A part has an order and a scale as a map of version 2 has them.
pub record IsPartHeader (h : Header) : Type 0 where
  pub header : IsHeader h
  pub second : h.version ≡ 2

abbrev pub part_line : Header → List ℕ
part_line h =
    codes "core-entropy-part 2 order " ++ decimal h.order ++ codes " scale " ++ decimal h.exponent ++ codes "\n"

abbrev pub part_text : Header → List Item → ℕ → List ℕ
part_text h items count = part_line h ++ (flat_map (item_text 2) items ++ end_line count)

-- No header of a part stands at the front.
abbrev pub LacksPart : List ℕ → Type 0
LacksPart text = (h : Header) (rest : List ℕ) → IsPartHeader h → text ≢ part_line h ++ rest

-- The header of a part stands at a place, and what follows it at another.
pub record IsPartAt (bytes : List ℕ) (from : ℕ) (h : Header) (end : ℕ) : Type 0 where
  pub header : IsPartHeader h
  pub spelled : drop from bytes ≡ part_line h ++ drop end bytes
  pub place : end ≡ from + length (part_line h)
  pub within : end ≤ length bytes
