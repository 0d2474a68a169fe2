use Rattle.ce_words.specs.Views.{run_of}
use Rattle.ce_words.proofs.TwoLoads.{closed_encloses, closed_settled, closed_was_set}
use Rattle.ce_words.proofs.board.Board.close.Goals as goal

pub returns : goal.returns
returns c =
    let last = c.close_with-closed.ensures.values.2 in
    let run = run_of c.args.self.table.shared.key in
    let first = c.args.first in
    record {
      encloses = closed_encloses run last.0 _ c.word-low.result c.word-high.result last.1.0 last.2 c.word-low.ensures
          c.word-high.ensures;
      settled = closed_settled run last.0 _ c.word-low.result c.word-high.result last.1.0 last.2 c.word-low.ensures
          c.word-high.ensures first.id first.me.0 c.requires.seat.run last.1.1 c.requires.whole;
      set = closed_was_set run last.0 _ c.word-low.result c.word-high.result last.1.0 last.2 c.word-low.ensures
          c.word-high.ensures first.id first.me.0 c.requires.seat.run last.1.1 c.requires.whole;
    }
