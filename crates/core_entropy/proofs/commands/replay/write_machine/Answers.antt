use Rattle.std.proofs.Common.{◌∙◌, ◌++◌, List, ℕ, inr, refl, string_bytes, ap, subst}
use Rattle.ce_port.specs.Sink.{GrewBy}
use Rattle.ce_port.specs.WriteAll.{GrewByPrefix}
use Rattle.ce_rows.specs.declared.interval.Interval.{Interval}
use Rattle.core_entropy.specs.Angle.{line_of}
use Rattle.core_entropy.specs.Replay.{replay_text}
use Rattle.core_entropy.specs.declared.status.Status.TheVariants.{WriteFault, NoMemory}
use Rattle.ce_desk.proofs.OneMore.{rose_since}
use Rattle.core_entropy.proofs.Ended.{wrote_by, wrote_stopped}
use Rattle.core_entropy.proofs.ReplayWritten.{interval_is, replay_part, replay_stays, replay_rest, replay_whole}
use Rattle.core_entropy.proofs.commands.replay.write_machine.Goals as goal

pub returns-in_err-write_entries-clause-wrote : goal.returns-in_err-write_entries-clause-wrote
returns-in_err-write_entries-clause-wrote g c =
    let s = c.args.core.now.machine.shared in
    let part = replay_part c.args.angle c.args.scale s (string_bytes c.new-page.result) c.new-page.ensures.bytes
    (g.O.Sink.taken c.args.out.now) (g.O.Sink.taken c.write_entries.new.out) c.in_err-write_entries.ensures.part in
    wrote_by g.O.Sink.taken g.O.Sink.faults c.args.out.now c.write_entries.new.out _ c.from_residual.result
    c.in_err-write_entries.field-0.0 c.from_residual.ensures.1
    (wrote_stopped g.O.Sink.taken g.O.Sink.faults c.args.out.now c.write_entries.new.out _
    c.in_err-write_entries.field-0.0 c.in_err-write_entries.ensures.stopped part)

pub returns-in_err-append_line-clause-wrote : goal.returns-in_err-append_line-clause-wrote
returns-in_err-append_line-clause-wrote g c =
    let s = c.args.core.now.machine.shared in
    let part = replay_stays c.args.angle c.args.scale s (string_bytes c.new-page.result) c.new-page.ensures.bytes
    (g.O.Sink.taken c.args.out.now) (g.O.Sink.taken c.write_entries.new.out) (string_bytes c.write_entries.new.page)
    c.in_ok-write_entries.ensures.done in
    wrote_by g.O.Sink.taken g.O.Sink.faults c.args.out.now c.write_entries.new.out _
    c.from_residual-in_err-append_line.result NoMemory c.from_residual-in_err-append_line.ensures.1 (inr part)

pub returns-in_err-write_piece-clause-wrote : goal.returns-in_err-write_piece-clause-wrote
returns-in_err-write_piece-clause-wrote g c =
    let s = c.args.core.now.machine.shared in
    let interval = interval_is c.interval.result s c.interval.ensures.low c.interval.ensures.high in
    let put = c.in_ok-append_line.ensures
    ∙ ap (λ (i : Interval). string_bytes c.write_entries.new.page ++ line_of c.args.angle c.args.scale i)
    interval in
    let bytes =
    subst (λ (t : List ℕ). GrewByPrefix (g.O.Sink.taken c.write_entries.new.out)
    (g.O.Sink.taken c.write_piece.new.out) t) c.as_bytes.ensures.value c.in_err-write_piece.ensures.part in
    let part = replay_rest c.args.angle c.args.scale s (string_bytes c.new-page.result) c.new-page.ensures.bytes
    (g.O.Sink.taken c.args.out.now) (g.O.Sink.taken c.write_entries.new.out) (g.O.Sink.taken c.write_piece.new.out)
    (string_bytes c.write_entries.new.page) (string_bytes c.append_line.new.text)
    c.in_ok-write_entries.ensures.done put bytes in
    let rose = rose_since _ _ _ c.in_ok-write_entries.ensures.counted c.in_err-write_piece.ensures.fault in
    wrote_by g.O.Sink.taken g.O.Sink.faults c.args.out.now c.write_piece.new.out _
    c.from_residual-in_err-write_piece.result WriteFault c.from_residual-in_err-write_piece.ensures.1 (part, rose)

pub returns-clause-wrote : goal.returns-clause-wrote
returns-clause-wrote g c =
    let s = c.args.core.now.machine.shared in
    let interval = interval_is c.interval.result s c.interval.ensures.low c.interval.ensures.high in
    let put = c.in_ok-append_line.ensures
    ∙ ap (λ (i : Interval). string_bytes c.write_entries.new.page ++ line_of c.args.angle c.args.scale i)
    interval in
    let bytes =
    subst (λ (t : List ℕ). GrewBy (g.O.Sink.taken c.write_entries.new.out) (g.O.Sink.taken c.write_piece.new.out) t)
    c.as_bytes.ensures.value c.in_ok-write_piece.ensures.whole in (
      replay_text c.args.angle c.args.scale s,
      refl,
      replay_whole c.args.angle c.args.scale s
          (string_bytes c.new-page.result) c.new-page.ensures.bytes (g.O.Sink.taken c.args.out.now)
          (g.O.Sink.taken c.write_entries.new.out) (g.O.Sink.taken c.write_piece.new.out)
          (string_bytes c.write_entries.new.page) (string_bytes c.append_line.new.text)
          c.in_ok-write_entries.ensures.done put bytes,
    )
