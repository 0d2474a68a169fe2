use Rattle.std.proofs.Common.{arith}
use Rattle.ce_lines.proofs.Asks.{no_grant_uncut, no_grant_number, no_grant_many}
use Rattle.ce_lines.proofs.asked.open_of.Goals as goal

pub returns-in_err-word-clause-none : goal.returns-in_err-word-clause-none
returns-in_err-word-clause-none c =
    rw c.from_residual.ensures (no_grant_uncut c.args.text.now c.in_err-word.ensures.none)

pub returns-in_err-turns-clause-none : goal.returns-in_err-turns-clause-none
returns-in_err-turns-clause-none c =
    let cut = c.in_ok-word in
    rw c.from_residual-in_err-turns.ensures
    (no_grant_number c.args.text.now cut.word.now cut.number.now cut.ensures.whole cut.ensures.first
    c.in_err-turns.ensures.none)

pub returns-then-turns-gt-MOST_TURNS-clause-none : goal.returns-then-turns-gt-MOST_TURNS-clause-none
returns-then-turns-gt-MOST_TURNS-clause-none c =
    let cut = c.in_ok-word in
    let read = c.in_ok-turns.ensures.spelled in
    no_grant_many c.args.text.now cut.word.now cut.number.now cut.ensures.whole cut.ensures.first
    read.0 c.in_ok-turns.turns read.1
    read.2 (omega (arith, c.if-turns-gt-MOST_TURNS.true))
