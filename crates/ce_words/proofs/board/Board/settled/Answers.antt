use Rattle.ce_words.proofs.TwoLoads.{settled_at}
use Rattle.ce_words.proofs.board.Board.settled.Goals as goal

pub returns-clause-settled : goal.returns-clause-settled
returns-clause-settled c =
    let two = c.load_bounds.ensures in
    let seen = c.load_bounds.result in
    settled_at c.args.first.now.me.0 seen.low seen.high two.low_step two.high_step c.requires.whole

pub returns-clause-set : goal.returns-clause-set
returns-clause-set c = c.load_bounds.ensures.low_step.permitted.were_set c.requires.whole
