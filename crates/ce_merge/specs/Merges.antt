-- What a merge says of the bytes (`IsAnswer`): that the text is the merge of the good parts that they are
-- (`IsMergeOf`), or that they have a first flaw. Source: this project's choice.
use Rattle.std.specs.Prelude.{◌≡◌, ◌++◌, ℕ, List, length}
use Rattle.ce_angle.specs.Fraction.{Fraction}
use Rattle.ce_map.specs.Grammar.{Header, Item}
use Rattle.ce_map.specs.PartGrammar.{part_text}
use Rattle.ce_merge.specs.Best.{IsBest, IsMerged, all_of, items_at}
use Rattle.ce_merge.specs.Flaws.{IsFirstFlawOf}
use Rattle.ce_merge.specs.Parts.{AreGoodParts}
use Rattle.ce_merge.specs.declared.merged.MergeCause.{MergeCause}
use Rattle.ce_merge.specs.declared.merged.Merged.{Merged}
use Rattle.ce_merge.specs.declared.merged.Merged.TheVariants.{Text, Refused}

-- Bytes are good parts.
pub record HasGoodParts (bytes : List ℕ) : Type 0 where
  pub header : Header
  pub parts : List (List Item)
  pub good : AreGoodParts bytes header parts

-- Bytes have a first flaw.
pub record HasFirstFlaw (bytes : List ℕ) : Type 0 where
  pub line : ℕ
  pub cause : MergeCause
  pub is : IsFirstFlawOf bytes line cause

-- A text is the merged part of good parts.
pub record IsMergeOf (bytes text : List ℕ) : Type 0 where
  pub header : Header
  pub parts : List (List Item)
  pub kept : List Item
  pub good : AreGoodParts bytes header parts
  pub merged : IsMerged (all_of parts) kept
  pub written : text ≡ part_text header kept (length kept)

abbrev pub IsAnswer : List ℕ → Merged → Type 0
IsAnswer bytes (Text text) = IsMergeOf bytes text.items
IsAnswer bytes (Refused line cause) = IsFirstFlawOf bytes line cause

-- The best interval of an angle in good parts.
pub record IsBestOf (bytes : List ℕ) (f : Fraction) (low high : ℕ) : Type 0 where
  pub header : Header
  pub parts : List (List Item)
  pub good : AreGoodParts bytes header parts
  pub best : IsBest (items_at f (all_of parts)) low high

-- A text is a slice of another one.
abbrev pub IsSlice : List ℕ → List ℕ → Type 0
IsSlice whole text = (before after : List ℕ) × (whole ≡ before ++ (text ++ after))
