-- One step of a walk, from what was read.
use Rattle.std.proofs.Common.{◌≡◌, ◌≢◌, ◌<◌, ◌≤◌, ◌+◌, ◌-◌, ℕ, List, [], ◌∷◌, ◌++◌, length, take, drop, Some, None}
use Rattle.std.proofs.Common.{refl, sym, ap, ◌∙◌, subst, arith, length-append, length-drop}
use Rattle.std.proofs.lemmas.Option.{none-some}
use Rattle.std.proofs.lemmas.List.{length-take-le, take-append-drop}
use Rattle.std.proofs.Math.Seq.{drop-append-add}
use Rattle.ce_map.specs.Fits.{LacksHeader, LacksEnd, IsUnfit}
use Rattle.ce_map.specs.Grammar.{Header, header_line, Item, item_text, end_line}
use Rattle.ce_map.specs.ItemsInside.{IsItemAt, IsUnfitItem}
use Rattle.ce_map.specs.LinesInside.{header_front, end_front}
use Rattle.ce_map.specs.Walk.{Walk, left_of, after_text, stopped, IsHeaderStep, IsItemStep, IsEndStep, IsUnfitLine}
use Rattle.ce_map.specs.Walk.{IsTailLine}
use Rattle.ce_map.specs.declared.record_view.RecordView.{RecordView}
use Rattle.ce_map.specs.declared.view.Stage.{Stage}
use Rattle.ce_map.specs.declared.view.Stage.TheVariants.{Start, Parts, Ended}
use Rattle.ce_map.proofs.Fronts.{header_read, header_is_at, end_lines, end_read, end_taken}

abbrev pub walk : List ℕ → ℕ → ℕ → Stage → Walk
walk bytes at line stage = record { bytes = bytes; at = at; line = line; stage = stage }

-- what is left after a text that was taken
pub record IsPast (bytes : List ℕ) (at : ℕ) (text rest : List ℕ) : Type 0 where
  pub place : length bytes - length rest ≡ at + length text
  pub left : drop (at + length text) bytes ≡ rest
  pub within : at + length text ≤ length bytes
  pub few : length rest ≤ length bytes

drop_twice : (m n : ℕ) (l : List ℕ) → m ≤ length l → drop (m + n) l ≡ drop n (drop m l)
drop_twice m n l within =
    let front : length (take m l) ≡ m = length-take-le m l within in
    ap (λ k. drop (k + n) l) (sym front) ∙ ap (drop (length (take m l) + n)) (sym (take-append-drop m l))
    ∙ drop-append-add (take m l) (drop m l) n

drop_front : (text rest : List ℕ) → drop (length text) (text ++ rest) ≡ rest
drop_front [] rest = refl
drop_front (x ∷ xs) rest = drop_front xs rest

pub past : (bytes : List ℕ) (at : ℕ) (text rest : List ℕ) → at ≤ length bytes → drop at bytes ≡ text ++ rest
    → IsPast bytes at text rest
past bytes at text rest within same =
    let total = ap length same in
    let parts = length-append text rest in
    let left = length-drop at bytes in
    record {
      place = omega arith;
      left = drop_twice at (length text) bytes within ∙ ap (drop (length text)) same ∙ drop_front text rest;
      within = omega arith;
      few = omega arith;
    }

-- the texts are not empty
pub header_long : (h : Header) → 1 ≤ length (header_line h)
header_long h = omega arith

pub item_long : (version : ℕ) (item : Item) → 4 ≤ length (item_text version item)
item_long version item = omega arith

pub end_long : (count : ℕ) → 1 ≤ length (end_line count)
end_long count = omega arith

module _ (w : Walk) (bytes : List ℕ) (at line : ℕ) (stage : Stage) (is : w ≡ walk bytes at line stage)
    (within : at ≤ length bytes) where
  -- where the walk goes on
  went_on : (text rest : List ℕ) (lines : ℕ) (next : Stage) → drop at bytes ≡ text ++ rest
      → walk bytes (length bytes - length rest) (line + lines) next ≡ after_text w text lines next
  went_on text rest lines next same =
      let after = past bytes at text rest within same in
      ap (λ a. walk bytes a (line + lines) next) after.place ∙ ap (λ u. after_text u text lines next) (sym is)

  left_was : left_of w ≡ drop at bytes
  left_was = ap left_of is

  left_is : (text rest : List ℕ) (lines : ℕ) (next : Stage) → drop at bytes ≡ text ++ rest
      → left_of w ≡ text ++ left_of (walk bytes (length bytes - length rest) (line + lines) next)
  left_is text rest lines next same =
      let after = past bytes at text rest within same in
      left_was ∙ same ∙ ap (λ l. text ++ l) (sym after.left ∙ ap (λ a. drop a bytes) (sym after.place))

  pub header_step : (text : List ℕ) (h : Header) (rest : List ℕ) → w.stage ≡ Start → text ≡ drop at bytes
      → header_front text ≡ Some (h, rest)
      → IsHeaderStep w h (walk bytes (length bytes - length rest) (line + 1) (Parts h.version))
  header_step text h rest start cut found =
      let front = header_is_at text h rest found in
      let same = sym cut ∙ front.spelled in
      record {
        expected = start;
        header = front.header;
        after = went_on (header_line h) rest 1 (Parts h.version) same;
        spelled = left_is (header_line h) rest 1 (Parts h.version) same;
      }

  pub header_lacks : (text : List ℕ) → w.stage ≡ Start → text ≡ drop at bytes → header_front text ≡ None
      → IsUnfitLine w w.stage line
  header_lacks text start cut none =
      let lacks : LacksHeader (left_of w) =
      λ h rest is same. none-some _ (sym none ∙ ap header_front (cut ∙ sym left_was ∙ same)
      ∙ header_read h rest is) in
      subst (λ s. IsUnfitLine w s line) (sym start) (lacks, sym (ap (λ u. u.line) is))

  pub end_step : (version : ℕ) (text : List ℕ) (count : ℕ) (rest : List ℕ) → w.stage ≡ Parts version
      → text ≡ drop at bytes → end_front text ≡ Some (count, rest)
      → IsEndStep w line count (walk bytes (length bytes - length rest) (line + 1) Ended)
  end_step version text count rest parts cut found =
      let front = end_taken text count rest found in
      let same = sym cut ∙ front.spelled ∙ sym (end_lines count rest) in
      record {
        version = version;
        expected = parts;
        number = front.number;
        after = went_on (end_line count) rest 1 Ended same;
        spelled = left_is (end_line count) rest 1 Ended same;
        at_line = sym (ap (λ u. u.line) is);
      }

  pub item_step : (version : ℕ) (text : List ℕ) (view : RecordView) (rest : List ℕ) → w.stage ≡ Parts version
      → text ≡ drop at bytes → IsItemAt version text line at view rest
      → IsItemStep w view (walk bytes (length bytes - length rest) (line + 4) stage)
  item_step version text view rest parts cut front =
      let same = sym cut ∙ front.spelled in
      let stage_is : stage ≡ Parts version = sym (ap (λ u. u.stage) is) ∙ parts in
      record {
        version = version;
        item = front.item;
        expected = parts;
        is_item = front.is_item;
        after = went_on (item_text version front.item) rest 4 stage same
            ∙ ap (after_text w (item_text version front.item) 4) stage_is;
        spelled = left_is (item_text version front.item) rest 4 stage same;
        shown = front.shown;
        at_line = front.at_line ∙ sym (ap (λ u. u.line) is);
        at_place = front.at_place ∙ sym (ap (λ u. u.at) is);
      }

  pub part_lacks : (version : ℕ) (text : List ℕ) (lines : ℕ) → w.stage ≡ Parts version → text ≡ drop at bytes
      → end_front text ≡ None → IsUnfitItem version text lines → IsUnfitLine w w.stage (line + lines)
  part_lacks version text lines parts cut none unfit =
      let text_is : text ≡ left_of w = cut ∙ sym left_was in
      let lacks : LacksEnd (left_of w) =
      λ count rest number same. none-some _ (sym none ∙ ap end_front (text_is ∙ same ∙ end_lines count rest)
      ∙ end_read count rest number) in
      let at_left = subst (λ t. IsUnfitItem version t lines) text_is unfit in
      let full : IsUnfit version (left_of w) lines =
      record { few = at_left.few; fits = at_left.fits; next = at_left.next; no_end = lacks } in
      subst (λ s. IsUnfitLine w s (line + lines)) (sym parts)
      (lines, full, ap (λ n. n + lines) (sym (ap (λ u. u.line) is)))

  pub tail_line : w.stage ≡ Ended → at < length bytes → IsTailLine w w.stage line
  tail_line ended more =
      let some : left_of w ≢ [] = λ none. omega (arith, ap length (sym left_was ∙ none), length-drop at bytes) in
      subst (λ s. IsTailLine w s line) (sym ended) (some, sym (ap (λ u. u.line) is))

  pub stopped_is : (next : Stage) → walk bytes at line next ≡ stopped w next
  stopped_is next = ap (λ u. stopped u next) (sym is)
