use Rattle.ce_lines.proofs.Asks.{formless_open, formless_other, if_none}
use Rattle.ce_lines.proofs.asked.asked_by.Goals as goal

pub returns-then-is_word-clause-none : goal.returns-then-is_word-clause-none
returns-then-is_word-clause-none c =
    if_none c.open_of.result
    (formless_open c.args.name.now c.args.rest.now c.requires (c.is_word.ensures.yes c.if-is_word.true))
    c.open_of.ensures.none

pub returns-else-is_word-2-clause-none : goal.returns-else-is_word-2-clause-none
returns-else-is_word-2-clause-none c =
    formless_other c.args.name.now c.args.rest.now c.requires (c.is_word.ensures.no c.if-is_word.false)
    (c.is_word-else-is_word.ensures.no c.if-is_word-2.false)
