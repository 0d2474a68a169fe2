use Rattle.std.proofs.Common.{rules, subst, sym}
use Rattle.ce_words.specs.Views.{CanCut}
use Rattle.ce_words.specs.declared.view.Part.{Part}
use Rattle.ce_words.proofs.Table.{splits}
use Rattle.ce_words.proofs.board.Board.split_as.Goals as goal

pub split_seat-requires : goal.split_seat-requires
split_seat-requires g c =
    let seat = c.args.first.now in
    let r = c.requires.seat in
    let part = g.J.Parting.part in
    let can = subst (λ (q : Part). CanCut seat.me.0 q) (sym c.requires.picked) c.requires.part in
    (r.table, search rules, splits _ seat.id seat.me.0 part r.run c.requires.first can)
