use Rattle.ce_lines.proofs.Asks.{formless_uncut}
use Rattle.ce_lines.proofs.asked.asked_of.Goals as goal

pub returns-in_err-name-clause-none : goal.returns-in_err-name-clause-none
returns-in_err-name-clause-none c =
    rw c.from_residual.ensures
    (formless_uncut c.args.line.now c.in_err-name.ensures.none (c.is_word.ensures.no c.if-is_word.false))
