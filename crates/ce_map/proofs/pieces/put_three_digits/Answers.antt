use Rattle.std.proofs.Common.{◌++◌, ◌∷◌, ◌∙◌, ap, sym}
use Rattle.ce_map.proofs.Appended.{ok_then, three_digits}
use Rattle.ce_map.proofs.pieces.put_three_digits.Goals as goal

pub returns-clause-ok : goal.returns-clause-ok
returns-clause-ok c =
    let shown =
    three_digits c.args.n c.glyph.result c.glyph-2.result c.glyph-3.result c.requires.some c.requires.few
    c.glyph.ensures c.glyph-2.ensures c.glyph-3.ensures in
    ok_then c.put.result _ _ (λ same. same ∙ ap (λ l. c.args.text.now.items ++ 32 ∷ l) (sym shown)) c.put.ensures.ok
