-- What the numbers of a list that are left stand for: `IsListOf` some base and some list.
-- `Numbers::next` takes the first of them, and so is said for each list that they are.
use Rattle.std.specs.Prelude.{◌≡◌, ℕ, List, All, length}
use Rattle.ce_map.specs.BaseInside.{radix_of}
use Rattle.ce_map.specs.Digits.{IsNumber, numbers_text}
use Rattle.ce_map.specs.declared.numbers.Numbers.{Numbers}

-- the text that is left
abbrev pub list_text : Numbers → List ℕ
list_text numbers = numbers.text.now

-- These numbers are left, written in a base.
pub record IsListOf (base : ℕ) (list : List ℕ) (numbers : Numbers) : Type 0 where
  pub spelled : list_text numbers ≡ numbers_text base list
  pub small : All IsNumber list
  pub counted : numbers.count ≡ length list
  pub written : radix_of numbers.base ≡ base

-- The numbers are some list.
pub record IsSomeList (numbers : Numbers) : Type 0 where
  pub base : ℕ
  pub list : List ℕ
  pub is_list : IsListOf base list numbers
