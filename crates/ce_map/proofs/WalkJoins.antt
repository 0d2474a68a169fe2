-- A walk takes slices of its bytes, which joined are the bytes up to its place.
use Rattle.std.proofs.Common.{◌≡◌, ℕ, List, [], ◌∷◌, ◌++◌, length, take, drop, refl, sym, ap, ◌∙◌, append_assoc}
use Rattle.std.specs.List.{flat_map}
use Rattle.ce_map.specs.Grammar.{Header, header_line, end_line}
use Rattle.ce_map.specs.Walk.{Walk, left_of, IsItemStep, AreItemSteps, IsWholeWalk}
use Rattle.ce_map.specs.declared.record_view.RecordView.{RecordView}

take_front : (text rest : List ℕ) → take (length text) (text ++ rest) ≡ text
take_front [] rest = refl
take_front (x ∷ xs) rest = ap (λ l. x ∷ l) (take_front xs rest)

abbrev text_of : RecordView → List ℕ
text_of view = view.text.now

step_taken : (w : Walk) (view : RecordView) (v : Walk) → IsItemStep w view v
    → left_of w ≡ text_of view ++ left_of v
step_taken w view v step = step.spelled ∙ ap (λ t. t ++ left_of v) (sym step.shown.text)

pub slice_taken : (w : Walk) (view : RecordView) (v : Walk) → IsItemStep w view v
    → text_of view ≡ take (length (text_of view)) (drop view.from w.bytes)
slice_taken w view v step =
    let place : drop view.from w.bytes ≡ text_of view ++ left_of v =
    ap (λ at. drop at w.bytes) step.at_place ∙ step_taken w view v step in
    sym (ap (take (length (text_of view))) place ∙ take_front (text_of view) (left_of v))

items_joined : (w : Walk) (views : List RecordView) (v : Walk) → AreItemSteps w views v
    → left_of w ≡ flat_map text_of views ++ left_of v
items_joined w [] v same = ap left_of same
items_joined w (view ∷ views) v steps =
    step_taken w view steps.0 steps.1.0
    ∙ ap (λ t. text_of view ++ t) (items_joined steps.0 views v steps.1.1)
    ∙ sym (append_assoc (text_of view) (flat_map text_of views) (left_of v))

pub walk_joined : (bytes : List ℕ) (h : Header) (views : List RecordView) (count : ℕ) (v : Walk)
    → IsWholeWalk bytes h views count v
    → bytes ≡ header_line h ++ (flat_map text_of views ++ (end_line count ++ left_of v))
walk_joined bytes h views count v walk =
    walk.header.spelled
    ∙ ap (λ t. header_line h ++ t) (items_joined walk.first views walk.last walk.items
    ∙ ap (λ t. flat_map text_of views ++ t) walk.end.spelled)
