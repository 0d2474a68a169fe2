use Rattle.std.proofs.Common.{rules}
use Rattle.ce_rows.specs.declared.act.Act.TheVariants.{Asks}
use Rattle.ce_words.proofs.Table.{allows}
use Rattle.ce_words.proofs.board.Board.ask_shift.Goals as goal

pub fetch_max-requires : goal.fetch_max-requires
fetch_max-requires c =
    let seat = c.args.seat.now in
    let r = c.requires.seat in
    (r.table, search rules, allows _ _ seat.id seat.me r.run r.live Asks c.args.count c.requires.few)
