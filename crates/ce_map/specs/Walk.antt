-- A walk over a text, part after part: what stands next, and where the walk goes on. `IsNext` is all
-- that `MapView::next` promises: a part is answered where its spelling stands, `Form` where none does,
-- and after it, after `Tail` and after `Over` the same for ever. What is taken is a slice, and the slices
-- joined are the bytes: the law `walks_join_to_their_bytes`. Source: this project's choice.
use Rattle.std.specs.Prelude.{◌≡◌, ◌≢◌, ◌+◌, ⊤, ℕ, List, [], ◌∷◌, ◌++◌, drop, length}
use Rattle.ce_map.specs.Digits.{IsNumber}
use Rattle.ce_map.specs.Fits.{LacksHeader, IsUnfit}
use Rattle.ce_map.specs.Grammar.{Header, IsHeader, header_line, Item, IsItem, item_text, end_line}
use Rattle.ce_map.specs.Views.{Shows}
use Rattle.ce_map.specs.declared.record_view.RecordView.{RecordView}
use Rattle.ce_map.specs.declared.view.Stage.{Stage}
use Rattle.ce_map.specs.declared.view.Stage.TheVariants.{Start, Parts, Ended, Failed, Trailing, Finished}
use Rattle.ce_map.specs.declared.view.Step.{Step}
use Rattle.ce_map.specs.declared.view.Step.TheVariants as step

-- the bytes, the place and the line of the next part, and what is expected there
pub record Walk : Type 0 where
  pub bytes : List ℕ
  pub at : ℕ
  pub line : ℕ
  pub stage : Stage

abbrev pub start_of : List ℕ → Walk
start_of bytes = record { bytes = bytes; at = 0; line = 1; stage = Start }

-- where an item or an end is expected
abbrev pub parts_from : List ℕ → ℕ → ℕ → ℕ → Walk
parts_from bytes from line version = record { bytes = bytes; at = from; line = line; stage = Parts version }

-- what is left
abbrev pub left_of : Walk → List ℕ
left_of w = drop w.at w.bytes

-- the walk after a text of so many lines
abbrev pub after_text : Walk → List ℕ → ℕ → Stage → Walk
after_text w text lines stage =
    record { bytes = w.bytes; at = w.at + length text; line = w.line + lines; stage = stage }

abbrev pub stopped : Walk → Stage → Walk
stopped w stage = record { bytes = w.bytes; at = w.at; line = w.line; stage = stage }

pub record IsHeaderStep (w : Walk) (h : Header) (v : Walk) : Type 0 where
  pub expected : w.stage ≡ Start
  pub header : IsHeader h
  pub after : v ≡ after_text w (header_line h) 1 (Parts h.version)
  pub spelled : left_of w ≡ header_line h ++ left_of v

pub record IsItemStep (w : Walk) (view : RecordView) (v : Walk) : Type 0 where
  pub version : ℕ
  pub item : Item
  pub expected : w.stage ≡ Parts version
  pub is_item : IsItem item
  pub after : v ≡ after_text w (item_text version item) 4 (Parts version)
  pub spelled : left_of w ≡ item_text version item ++ left_of v
  pub shown : Shows version item view
  pub at_line : view.line ≡ w.line
  pub at_place : view.from ≡ w.at

pub record IsEndStep (w : Walk) (line count : ℕ) (v : Walk) : Type 0 where
  pub version : ℕ
  pub expected : w.stage ≡ Parts version
  pub number : IsNumber count
  pub after : v ≡ after_text w (end_line count) 1 Ended
  pub spelled : left_of w ≡ end_line count ++ left_of v
  pub at_line : line ≡ w.line

-- the first line that does not fit, by what is expected
abbrev pub IsUnfitLine : Walk → Stage → ℕ → Type 0
IsUnfitLine w Start line = LacksHeader (left_of w) × (line ≡ w.line)
IsUnfitLine w (Parts version) line = (lines : ℕ) × IsUnfit version (left_of w) lines × (line ≡ w.line + lines)
IsUnfitLine w (Failed before) line = line ≡ before
IsUnfitLine w stage line = ⊥

abbrev pub IsTailLine : Walk → Stage → ℕ → Type 0
IsTailLine w Ended line = (left_of w ≢ []) × (line ≡ w.line)
IsTailLine w (Trailing before) line = line ≡ before
IsTailLine w stage line = ⊥

abbrev pub IsOver : Walk → Stage → Type 0
IsOver w Ended = left_of w ≡ []
IsOver w Finished = ⊤
IsOver w stage = ⊥

-- One step of a walk, with its answer.
abbrev pub IsNext : Walk → Step → Walk → Type 0
IsNext w (step.Header order version scale) v =
    IsHeaderStep w (record { version = version; order = order; exponent = scale }) v
IsNext w (step.Item view) v = IsItemStep w view v
IsNext w (step.End line count) v = IsEndStep w line count v
IsNext w (step.Form line) v = IsUnfitLine w w.stage line × (v ≡ stopped w (Failed line))
IsNext w (step.Tail line) v = IsTailLine w w.stage line × (v ≡ stopped w (Trailing line))
IsNext w step.Over v = IsOver w w.stage × (v ≡ stopped w Finished)

-- Items are taken one after another.
abbrev pub AreItemSteps : Walk → List RecordView → Walk → Type 0
AreItemSteps w [] v = w ≡ v
AreItemSteps w (view ∷ views) v = (u : Walk) × (IsItemStep w view u × AreItemSteps u views v)

-- A walk takes a header, items and an end, from the start of a text on.
pub record IsWholeWalk (bytes : List ℕ) (h : Header) (views : List RecordView) (count : ℕ) (v : Walk) : Type 0 where
  pub first : Walk
  pub last : Walk
  pub line : ℕ
  pub header : IsHeaderStep (start_of bytes) h first
  pub items : AreItemSteps first views last
  pub end : IsEndStep last line count v
