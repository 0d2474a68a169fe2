use Rattle.std.proofs.Common.{◌++◌, ◌∷◌, [], ◌∙◌, ap, sym, arith}
use Rattle.ce_map.proofs.Appended.{ok_then}
use Rattle.ce_map.proofs.NumberLaws.{digits_one}
use Rattle.ce_map.proofs.pieces.put_one_digit.Goals as goal

pub returns-clause-decimal : goal.returns-clause-decimal
returns-clause-decimal c = λ few.
    let shown = digits_one 10 (omega arith) (omega arith) c.args.n few in
    ok_then c.put.result _ _
    (λ same. same ∙ ap (λ l. c.args.text.now.items ++ 32 ∷ l) (ap (λ g. g ∷ []) c.glyph.ensures ∙ sym shown))
    c.put.ensures.ok

pub returns-clause-hexadecimal : goal.returns-clause-hexadecimal
returns-clause-hexadecimal c =
    let shown = digits_one 16 (omega arith) (omega arith) c.args.n c.requires in
    ok_then c.put.result _ _
    (λ same. same ∙ ap (λ l. c.args.text.now.items ++ 32 ∷ l) (ap (λ g. g ∷ []) c.glyph.ensures ∙ sym shown))
    c.put.ensures.ok
