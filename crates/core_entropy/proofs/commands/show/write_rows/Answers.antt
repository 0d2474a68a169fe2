use Rattle.std.proofs.Common.{◌≡◌, ◌++◌, ◌∙◌, ap, subst, sym, refl, length, string_bytes}
use Rattle.ce_port.specs.Pieces.{GrewAllBut}
use Rattle.ce_port.proofs.Paging.{GrewAllBut-none, none-prefix}
use Rattle.core_entropy.specs.Show.{rows_text}
use Rattle.core_entropy.proofs.Ended.{on_err}
use Rattle.core_entropy.proofs.ShowPlaces.{one_row}
use Rattle.core_entropy.proofs.ShowTask.{row_spelled}
use Rattle.core_entropy.proofs.commands.show.write_rows.Goals as goal

pub returns-in_ok-append_row-clause-done : goal.returns-in_ok-append_row-clause-done
returns-in_ok-append_row-clause-done g c =
    let o = c.args.orbit.now in
    let page = string_bytes c.args.page.now in
    let taken = g.O.Sink.taken c.args.out.now in
    let one : length o.places ≡ 1 = sym c.len.ensures.value ∙ c.if-len-eq1.true in
    let line = row_spelled o 0 (0, 0) c.args.rows.now.list c.row.result refl c.requires c.row.ensures.value
    ∙ one_row o one in
    let grown = c.in_ok-append_row.ensures ∙ ap (λ l. page ++ l) line in
    subst (λ p. GrewAllBut taken taken p (page ++ rows_text o)) (sym grown)
    (GrewAllBut-none taken (page ++ rows_text o))

pub returns-in_err-append_row-clause-part : goal.returns-in_err-append_row-clause-part
returns-in_err-append_row-clause-part g c =
    on_err _ c.from_residual.result
    (none-prefix (g.O.Sink.taken c.args.out.now) (string_bytes c.args.page.now ++ rows_text c.args.orbit.now))
