-- How an item is read from the front of a text.
use Rattle.std.specs.Prelude.{◌≡◌, ◌<◌, ◌+◌, ℕ, List, ◌∷◌, ◌++◌}
use Rattle.std.specs.Fmt.{decimal}
use Rattle.ce_map.specs.Digits.{IsNumber, numbers_text}
use Rattle.ce_map.specs.Fits.{HasLines, LacksLines}
use Rattle.ce_map.specs.Grammar.{IsList, Item, IsItem, item_text}
use Rattle.ce_map.specs.Lists.{IsListOf}
use Rattle.ce_map.specs.Views.{Shows}
use Rattle.ce_map.specs.declared.numbers.Numbers.{Numbers}
use Rattle.ce_map.specs.declared.record_view.RecordView.{RecordView}

-- A name and a list stand at the front of a text, with a line feed after them.
pub record IsNamedListAt (name : List ℕ) (base : ℕ) (text : List ℕ) (numbers : Numbers) (rest : List ℕ) : Type 0 where
  pub list : List ℕ
  pub is_list : IsList list
  pub shown : IsListOf base list numbers
  pub spelled : text ≡ name ++ (numbers_text base list ++ 10 ∷ rest)

-- The same with a number between the name and the list.
pub record IsLowAt (name : List ℕ) (base : ℕ) (text : List ℕ) (rank : ℕ) (numbers : Numbers)
    (rest : List ℕ) : Type 0 where
  pub list : List ℕ
  pub is_list : IsList list
  pub small : IsNumber rank
  pub shown : IsListOf base list numbers
  pub spelled : text ≡ name ++ (decimal rank ++ (numbers_text base list ++ 10 ∷ rest))

-- An item stands at the front of a text, and a view shows it.
pub record IsItemAt (version : ℕ) (text : List ℕ) (line from : ℕ) (view : RecordView) (rest : List ℕ) : Type 0 where
  pub item : Item
  pub is_item : IsItem item
  pub spelled : text ≡ item_text version item ++ rest
  pub shown : Shows version item view
  pub at_line : view.line ≡ line
  pub at_place : view.from ≡ from

-- So many lines of an item stand at the front of a text, and not one more.
pub record IsUnfitItem (version : ℕ) (text : List ℕ) (lines : ℕ) : Type 0 where
  pub few : lines < 4
  pub fits : HasLines version text lines
  pub next : LacksLines version text (lines + 1)
