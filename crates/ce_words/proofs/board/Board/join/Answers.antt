use Rattle.std.proofs.Common.{rules}
use Rattle.ce_words.proofs.Table.{joins}
use Rattle.ce_words.proofs.board.Board.join.Goals as goal

pub join_seat-requires : goal.join_seat-requires
join_seat-requires c =
    let seat = c.args.first.now in
    let other = c.args.other in
    let r = c.requires.seat in
    let q = c.requires.other in (
      r.table,
      q.table,
      q.slots,
      search rules,
      joins _ seat.id seat.me.0 other.id other.me.0 r.run c.requires.first c.requires.split,
    )
