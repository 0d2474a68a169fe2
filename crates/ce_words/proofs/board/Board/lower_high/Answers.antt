use Rattle.std.proofs.Common.{rules, subst, sym}
use Rattle.ce_rows.specs.Rows.{IsUpperBoundOf}
use Rattle.ce_rows.specs.declared.act.Act.TheVariants.{Lowers}
use Rattle.ce_words.specs.Views.{rows_of}
use Rattle.ce_words.specs.declared.view.Run.{Run}
use Rattle.ce_words.proofs.Table.{allows}
use Rattle.ce_words.proofs.board.Board.lower_high.Goals as goal

pub fetch_min-before-requires : goal.fetch_min-before-requires
fetch_min-before-requires c =
    let seat = c.args.seat.now in
    let r = c.requires.seat in
    let proved = subst (λ (x : Run). IsUpperBoundOf (rows_of x) c.args.high) (sym r.run) c.requires.above in
    (r.table, search rules, allows _ _ seat.id seat.me r.run r.live Lowers c.args.high proved)
