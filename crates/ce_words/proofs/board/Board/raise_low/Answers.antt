use Rattle.std.proofs.Common.{rules, subst, sym}
use Rattle.ce_rows.specs.Rows.{IsLowerBoundOf}
use Rattle.ce_rows.specs.declared.act.Act.TheVariants.{Raises}
use Rattle.ce_words.specs.Views.{rows_of}
use Rattle.ce_words.specs.declared.view.Run.{Run}
use Rattle.ce_words.proofs.Table.{allows}
use Rattle.ce_words.proofs.board.Board.raise_low.Goals as goal

pub fetch_max-before-requires : goal.fetch_max-before-requires
fetch_max-before-requires c =
    let seat = c.args.seat.now in
    let r = c.requires.seat in
    let proved = subst (λ (x : Run). IsLowerBoundOf (rows_of x) c.args.low) (sym r.run) c.requires.below in
    (r.table, search rules, allows _ _ seat.id seat.me r.run r.live Raises c.args.low proved)
