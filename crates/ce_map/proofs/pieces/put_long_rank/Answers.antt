use Rattle.std.proofs.Common.{◌++◌, ◌∙◌, ap, refl, arith}
use Rattle.std.specs.Fmt.{decimal}
use Rattle.ce_map.proofs.Appended.{decimal_short, spaced, ok_then}
use Rattle.ce_map.proofs.pieces.put_long_rank.Goals as goal

pub write_digits-start-requires : goal.write_digits-start-requires
write_digits-start-requires c =
    let short = decimal_short c.args.n c.ranges.n.fits in
    (omega arith, omega arith)

pub overflow_sub-start : goal.overflow_sub-start
overflow_sub-start c =
    let short = decimal_short c.args.n c.ranges.n.fits in
    omega (arith, c.write_digits-start.ensures.start)

pub returns-clause-ok : goal.returns-clause-ok
returns-clause-ok c =
    let short = decimal_short c.args.n c.ranges.n.fits in
    let piece = c.rest_of.ensures ∙ spaced c.write_digits-start.new.buf c.write_digits-start.result (decimal c.args.n) _
    (omega (arith, c.write_digits-start.ensures.start)) (omega (arith, c.write_digits-start.ensures.start))
    c.write_digits-start.ensures.written refl in
    ok_then c.put.result _ _ (λ same. same ∙ ap (λ l. c.args.text.now.items ++ l) piece) c.put.ensures.ok
