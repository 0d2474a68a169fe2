-- Closing lines, one after another.
use Rattle.std.proofs.Common.{◌≡◌, ◌<◌, ◌+◌, ℕ, List, [], ◌∷◌, ◌++◌, length, take, drop}
use Rattle.std.proofs.Common.{take-append-drop, slice_index_or, sym, ap, ◌∙◌, subst, append_assoc, append-nil}
use Rattle.std.proofs.Common.{Option, arith}
use Rattle.std.specs.Prelude.{Result, Ok, Err}
use Rattle.std.specs.Result.{IfErr}
use Rattle.std.proofs.lemmas.List.{take_more, length-take}
use Rattle.ce_port.specs.Sink.{GrewBy}
use Rattle.ce_port.specs.WriteAll.{GrewByPrefix}
use Rattle.ce_port.proofs.Grown.{GrewBy-trans}
use Rattle.ce_port.proofs.Paging.{prefix-after, prefix-more, whole-prefix}
use Rattle.ce_desk.specs.DeskText.{closed_text, closing_lines}
use Rattle.ce_desk.specs.declared.closing.Closing.{Closing}

lines-append : (k : ℕ) (xs ys : List Closing)
    → closing_lines k (xs ++ ys) ≡ closing_lines k xs ++ closing_lines (k + length xs) ys
lines-append k [] ys = ap (λ (n : ℕ). closing_lines n ys) (omega arith)
lines-append k (x ∷ xs) ys =
    ap (λ (l : List ℕ). closed_text k x ++ l)
    (lines-append (k + 1) xs ys ∙ ap (λ (n : ℕ). closing_lines (k + 1) xs ++ closing_lines n ys) (omega arith))
    ∙ sym (append_assoc (closed_text k x) (closing_lines (k + 1) xs) (closing_lines (k + length (x ∷ xs)) ys))

module _ (closings : List Closing) (i : ℕ) where
  abbrev so_far : List ℕ
  so_far = closing_lines 0 (take i closings)

  pub lines_split : closing_lines 0 closings ≡ so_far ++ closing_lines (0 + length (take i closings)) (drop i closings)
  lines_split = ap (closing_lines 0) (sym (take-append-drop i closings))
      ∙ lines-append 0 (take i closings) (drop i closings)

  pub one_line_more : (d : Closing) → i < length closings
      → closing_lines 0 (take (i + 1) closings) ≡ so_far ++ closed_text i (slice_index_or closings i d)
  one_line_more d within =
      ap (closing_lines 0) (take_more closings i d within)
      ∙ lines-append 0 (take i closings) (slice_index_or closings i d ∷ [])
      ∙ ap (λ (l : List ℕ). so_far ++ l)
      (append-nil (closed_text (0 + length (take i closings)) (slice_index_or closings i d))
      ∙ ap (λ (n : ℕ). closed_text n (slice_index_or closings i d)) (length_is within))
    where
      length_is : i < length closings → 0 + length (take i closings) ≡ i
      length_is within = omega (arith, within, length-take i closings)

  module _ (a b : Option (List ℕ)) (said : GrewBy a b so_far) where
    -- nothing more was written
    pub lines_stop : GrewByPrefix a b (closing_lines 0 closings)
    lines_stop = subst (GrewByPrefix a b) (sym lines_split)
        (prefix-more a b so_far (closing_lines (0 + length (take i closings)) (drop i closings))
        (whole-prefix a b so_far said))

    pub line_said : (c : Option (List ℕ)) (d : Closing) → i < length closings
        → GrewBy b c (closed_text i (slice_index_or closings i d))
        → GrewBy a c (closing_lines 0 (take (i + 1) closings))
    line_said c d within more =
        subst (GrewBy a c) (sym (one_line_more d within))
        (GrewBy-trans a b c so_far (closed_text i (slice_index_or closings i d)) said more)

    pub line_part : (c : Option (List ℕ)) (d : Closing) → i < length closings
        → GrewByPrefix b c (closed_text i (slice_index_or closings i d))
        → GrewByPrefix a c (closing_lines 0 closings)
    line_part c d within part =
        let here = prefix-after a b c so_far (closed_text i (slice_index_or closings i d)) said part in
        let rest = prefix-more a c (so_far ++ closed_text i (slice_index_or closings i d))
        (closing_lines (0 + length (take (i + 1) closings)) (drop (i + 1) closings)) here in
        subst (GrewByPrefix a c)
        (ap (λ (l : List ℕ). l ++ closing_lines (0 + length (take (i + 1) closings)) (drop (i + 1) closings))
        (sym (one_line_more d within)) ∙ sym (all_split)) rest
      where
        all_split : closing_lines 0 closings ≡ closing_lines 0 (take (i + 1) closings) ++ closing_lines
            (0 + length (take (i + 1) closings)) (drop (i + 1) closings)
        all_split = ap (closing_lines 0) (sym (take-append-drop (i + 1) closings))
            ∙ lines-append 0 (take (i + 1) closings) (drop (i + 1) closings)

pub if_err : {A E P : Type 0} (r : Result A E) → P → IfErr r (λ _. P)
if_err (Ok a) p = tt
if_err (Err e) p = p

-- a closing as it is read from a list
abbrev pub closing_at : List Closing → ℕ → Closing
closing_at closings i = slice_index_or closings i (record { interval = record { low = 0; high = 0 }; turns = 0 })

pub if_err_map : {A E P Q : Type 0} (r : Result A E) → (P → Q) → IfErr r (λ _. P) → IfErr r (λ _. Q)
if_err_map (Ok a) more p = tt
if_err_map (Err e) more p = more p
