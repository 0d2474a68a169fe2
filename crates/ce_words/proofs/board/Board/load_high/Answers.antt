use Rattle.std.proofs.Common.{rules}
use Rattle.ce_rows.specs.declared.act.Act.TheVariants.{LoadsHigh}
use Rattle.ce_words.proofs.Table.{allows}
use Rattle.ce_words.proofs.board.Board.load_high.Goals as goal

pub load-requires : goal.load-requires
load-requires c =
    let seat = c.args.seat.now in
    let r = c.requires in
    (r.table, search rules, allows _ _ seat.id seat.me r.run r.live LoadsHigh 0 tt)
