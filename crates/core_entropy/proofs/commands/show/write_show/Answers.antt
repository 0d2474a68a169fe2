use Rattle.std.proofs.Common.{List, ℕ, [], inl, refl, string_bytes, subst}
use Rattle.ce_port.specs.Sink.{GrewBy}
use Rattle.ce_port.specs.WriteAll.{GrewByPrefix}
use Rattle.core_entropy.specs.Show.{show_task}
use Rattle.core_entropy.specs.declared.status.Status.TheVariants.{WriteFault}
use Rattle.ce_desk.proofs.OneMore.{rose_since}
use Rattle.core_entropy.proofs.Ended.{ended_by, ended_stopped}
use Rattle.core_entropy.proofs.ShowTask.{shown, shown_part, shown_rest}
use Rattle.core_entropy.proofs.commands.show.write_show.Goals as goal

pub returns-in_err-write_rows : goal.returns-in_err-write_rows
returns-in_err-write_rows g c =
    let o = c.in_ok-orbit.orbit in
    let part = shown_part c.args.angle o c.in_ok-orbit.ensures.places c.in_ok-orbit.ensures.angle
    (g.O.Sink.taken c.args.out.now) (g.O.Sink.taken c.write_rows.new.out) (string_bytes c.in_ok-page.page)
    c.in_ok-page.ensures c.in_err-write_rows.ensures.part in
    ended_by g.O.Sink.taken g.O.Sink.faults (show_task c.args.angle) [] c.args.out.now c.write_rows.new.out
    c.from_residual-in_err-write_rows.result c.in_err-write_rows.field-0.0
    c.from_residual-in_err-write_rows.ensures.1
    (ended_stopped g.O.Sink.taken g.O.Sink.faults c.args.out.now c.write_rows.new.out (show_task c.args.angle) []
    c.in_err-write_rows.field-0.0 c.in_err-write_rows.ensures.stopped part)

pub returns-in_err-write_piece : goal.returns-in_err-write_piece
returns-in_err-write_piece g c =
    let o = c.in_ok-orbit.orbit in
    let bytes =
    subst (λ (t : List ℕ). GrewByPrefix (g.O.Sink.taken c.write_rows.new.out) (g.O.Sink.taken c.write_piece.new.out)
    t) c.as_bytes.ensures.value c.in_err-write_piece.ensures.part in
    let part = shown_rest c.args.angle o c.in_ok-orbit.ensures.places c.in_ok-orbit.ensures.angle
    (g.O.Sink.taken c.args.out.now) (g.O.Sink.taken c.write_rows.new.out) (g.O.Sink.taken c.write_piece.new.out)
    (string_bytes c.in_ok-page.page) (string_bytes c.write_rows.new.page) c.in_ok-page.ensures
    c.in_ok-write_rows.ensures.done bytes in
    let rose = rose_since _ _ _ c.in_ok-write_rows.ensures.counted c.in_err-write_piece.ensures.fault in
    ended_by g.O.Sink.taken g.O.Sink.faults (show_task c.args.angle) [] c.args.out.now c.write_piece.new.out
    c.from_residual-in_err-write_piece.result WriteFault c.from_residual-in_err-write_piece.ensures.1
    (ended_stopped g.O.Sink.taken g.O.Sink.faults c.args.out.now c.write_piece.new.out (show_task c.args.angle) []
    WriteFault (inl (refl, rose)) part)

pub returns : goal.returns
returns g c =
    let o = c.in_ok-orbit.orbit in
    let bytes =
    subst (λ (t : List ℕ). GrewBy (g.O.Sink.taken c.write_rows.new.out) (g.O.Sink.taken c.write_piece.new.out) t)
    c.as_bytes.ensures.value c.in_ok-write_piece.ensures.whole in
    shown c.args.angle o c.in_ok-orbit.ensures.places c.in_ok-orbit.ensures.angle g.O.Sink.taken g.O.Sink.faults
    c.args.out.now c.write_rows.new.out c.write_piece.new.out c.in_ok-orbit.ensures.few
    (string_bytes c.in_ok-page.page) (string_bytes c.write_rows.new.page) c.in_ok-page.ensures
    c.in_ok-write_rows.ensures.done bytes
