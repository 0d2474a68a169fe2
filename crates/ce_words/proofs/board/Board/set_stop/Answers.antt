use Rattle.std.proofs.Common.{rules}
use Rattle.ce_words.proofs.Table.{allows_stop}
use Rattle.ce_words.proofs.board.Board.set_stop.Goals as goal

pub store-requires : goal.store-requires
store-requires c =
    let seat = c.args.seat.now in
    let r = c.requires.seat in
    (r.table, search rules, allows_stop _ _ seat.id seat.me r.run r.live c.requires.equal)
