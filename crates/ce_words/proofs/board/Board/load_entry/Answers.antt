use Rattle.std.proofs.Common.{rules, subst, sym, ◌<◌, length}
use Rattle.ce_words.specs.declared.view.Run.{Run}
use Rattle.ce_words.proofs.Table.{allows_load}
use Rattle.ce_words.proofs.board.Board.load_entry.Goals as goal

pub load-requires : goal.load-requires
load-requires c =
    let seat = c.args.seat.now in
    let r = c.requires.seat in
    let i = c.args.i in
    let entry : i < length seat.me.0.run.rows = subst (λ (x : Run). i < length x.rows) (sym r.run) c.requires.entry in
    (r.table, search rules, allows_load _ _ seat.id seat.me r.run r.live i entry)
