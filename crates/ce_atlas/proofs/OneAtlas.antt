-- With no turns an order has one atlas.
use Rattle.std.proofs.Common.{◌≡◌, ◌<◌, ◌∙◌, ◌++◌, ℕ, suc, List, [], ◌∷◌, length, get_or}
use Rattle.std.proofs.Common.{refl, sym, ap, ap₂, subst, arith}
use Rattle.std.proofs.lemmas.List.{ext_get_or, get_or-map, length-map}
use Rattle.ce_angle.specs.Fraction.{Fraction}
use Rattle.ce_angle.proofs.OneList.{one_list}
use Rattle.ce_cert.specs.Certificate.{Evidence}
use Rattle.ce_solve.specs.SolvedAngle.{MaySolve}
use Rattle.ce_solve.specs.SolvedRows.{closing_in}
use Rattle.ce_solve.specs.declared.collecting.Solved.{Solved}
use Rattle.ce_solve.specs.declared.settings.Settings.{Settings}
use Rattle.ce_solve.proofs.NoTurnsClosing.{still_answer}
use Rattle.ce_sweep.specs.Answers.{AreSolvedBy}
use Rattle.ce_sweep.specs.Classes.{HaveSameKneading}
use Rattle.ce_sweep.proofs.OneNumbering.{one_numbering}
use Rattle.ce_atlas.specs.Above.{count_of_lesser, highs_of}
use Rattle.ce_atlas.specs.Atlas.{AreRowsOf, IsAtlas, IsRowOf, size_of}
use Rattle.ce_atlas.specs.InternalAddress.{symbol_number}
use Rattle.ce_atlas.specs.Table.{fields_of_row, line_of, names, rows_text, table_text}
use Rattle.ce_atlas.specs.declared.row.ClassRow.{ClassRow}
use Rattle.ce_atlas.proofs.ClassIntervals.{solves_first, some_of}
use Rattle.ce_atlas.proofs.OneAddress.{one_address}

-- Rows of one class with the same certificate have the same fields.
same_fields : (settings : Settings) (angle : Fraction) (size : ℕ) (x y : Solved) (highs : List ℕ) (row other : ClassRow)
    → MaySolve settings angle (closing_in x) → (closing_in x).evidence ≡ (closing_in y).evidence
    → IsRowOf angle size x highs row → IsRowOf angle size y highs other
    → (number : ℕ) → fields_of_row number row ≡ fields_of_row number other
same_fields settings angle size x y highs row other may same h k = λ number.
    let same_low = ap (λ (e : Evidence). e.low) same in
    let same_high = ap (λ (e : Evidence). e.high) same in
    let first = h.first ∙ sym k.first in
    let sizes = h.size_is ∙ sym k.size_is in
    let o = may.orbit in
    let preperiod = h.preperiod o may.is_orbit may.of_angle ∙ sym (k.preperiod o may.is_orbit may.of_angle) in
    let period = h.period o may.is_orbit may.of_angle ∙ sym (k.period o may.is_orbit may.of_angle) in
    let entries = one_address (symbol_number angle) row.address other.address h.address k.address in
    let low = h.low ∙ same_low ∙ sym k.low in
    let high = h.high ∙ same_high ∙ sym k.high in
    let above = h.above ∙ ap (λ n. count_of_lesser highs n) same_low ∙ sym k.above in
    rw (first, sizes, preperiod, period, entries, low, high, above) refl

-- Rows with the same fields have the same lines.
same_lines : (number : ℕ) (rows others : List ClassRow) → length rows ≡ length others
    → ((c : ℕ) (r s : ClassRow) → c < length rows
    → (n : ℕ) → fields_of_row n (get_or rows c r) ≡ fields_of_row n (get_or others c s))
    → rows_text number rows ≡ rows_text number others
same_lines number [] [] long same = refl
same_lines number [] (s ∷ others) long same = absurd (omega arith)
same_lines number (r ∷ rows) [] long same = absurd (omega arith)
same_lines number (r ∷ rows) (s ∷ others) long same =
    let here = ap line_of (same 0 r s (omega arith) number) in
    let rest = same_lines (suc number) rows others (omega arith) (λ c x y less. same (suc c) x y (omega arith)) in
    ap₂ (λ (l t : List ℕ). l ++ t) here rest

module _ (settings : Settings) (none : settings.turns ≡ 0) (angles : List Fraction) (of first : List ℕ)
    (solutions solved : List Solved) (h : AreSolvedBy settings angles of first solutions)
    (k : AreSolvedBy settings angles of first solved) where
  same_at : (c : ℕ) (e : Solved) → c < length first
      → (closing_in (get_or solutions c e)).evidence ≡ (closing_in (get_or solved c e)).evidence
  same_at c e within =
      let d : Fraction = record { num = 0; den = 1 } in
      let one = solves_first settings angles of first solutions h c d e within in
      let two = solves_first settings angles of first solved k c d e within in
      still_answer settings (get_or angles (get_or first c 0) d) _ _ none one two

  same_highs : highs_of solutions ≡ highs_of solved
  same_highs =
      let high_of : Solved → ℕ = λ s. s.certificate.high in
      let one = length-map solutions high_of in
      let two = length-map solved high_of in
      let each = h.each in
      let other = k.each in
      ext_get_or 0 (highs_of solutions) (highs_of solved) (omega arith) (λ c less.
      let within : c < length first = omega arith in
      let e = some_of solutions (omega arith) in
      let left = get_or-map high_of solutions c e 0 (omega arith) in
      let right = get_or-map high_of solved c e 0 (omega arith) in
      left ∙ ap (λ (x : Evidence). x.high) (same_at c e within) ∙ sym right)

  same_texts : (rows others : List ClassRow) → AreRowsOf angles of first solutions rows
      → AreRowsOf angles of first solved others → rows_text 0 rows ≡ rows_text 0 others
  same_texts rows others are were =
      same_lines 0 rows others (are.each ∙ sym were.each) (λ c r s less.
      let each = h.each in
      let count = are.each in
      let within : c < length first = omega arith in
      let d : Fraction = record { num = 0; den = 1 } in
      let e = some_of solutions (omega arith) in
      let angle = get_or angles (get_or first c 0) d in
      let size = size_of of c in
      let one = are.rows_are c d e r within in
      let other = get_or others c s in
      let of_other = were.rows_are c d e s within in
      let two = subst (λ l. IsRowOf angle size (get_or solved c e) l other) (sym same_highs) of_other in
      let may = solves_first settings angles of first solutions h c d e within in
      same_fields settings angle size _ _ (highs_of solutions) _ _ may (same_at c e within) one two)

pub one_atlas : (settings : Settings) (order : ℕ) (rows others : List ClassRow) → settings.turns ≡ 0
    → IsAtlas settings order rows → IsAtlas settings order others → table_text rows ≡ table_text others
one_atlas settings order rows others none h k =
    let angles = one_list order k.angles h.angles k.are_all h.are_all in
    let listed = subst (λ l. AreSolvedBy settings l k.of k.first k.solutions) angles k.solved in
    let rows_listed = subst (λ l. AreRowsOf l k.of k.first k.solutions others) angles k.rows_are in
    let d : Fraction = record { num = 0; den = 1 } in
    let classes = listed.classes in
    let both = one_numbering HaveSameKneading h.angles d k.of k.first h.of h.first classes h.solved.classes in
    let by_of = subst (λ l. AreSolvedBy settings h.angles l k.first k.solutions) both.0 listed in
    let by_first = subst (λ l. AreSolvedBy settings h.angles h.of l k.solutions) both.1 by_of in
    let rows_of = subst (λ l. AreRowsOf h.angles l k.first k.solutions others) both.0 rows_listed in
    let rows_first = subst (λ l. AreRowsOf h.angles h.of l k.solutions others) both.1 rows_of in
    let texts = same_texts settings none h.angles h.of h.first h.solutions k.solutions h.solved by_first in
    ap (λ t. line_of names ++ t) (texts rows others h.rows_are rows_first)
