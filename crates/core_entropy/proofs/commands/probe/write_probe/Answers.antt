use Rattle.std.proofs.Common.{List, ℕ, [], inl, refl, string_bytes, subst}
use Rattle.ce_port.specs.WriteAll.{GrewByPrefix}
use Rattle.core_entropy.specs.Probe.{IsProbeText, probe_task}
use Rattle.core_entropy.specs.declared.status.Status.TheVariants.{WriteFault}
use Rattle.core_entropy.proofs.Ended.{ended_by, ended_stopped}
use Rattle.core_entropy.proofs.commands.probe.write_probe.Goals as goal

pub returns-in_err-write_piece : goal.returns-in_err-write_piece
returns-in_err-write_piece g c =
    let task = probe_task c.args.start c.args.count c.args.rounds c.args.scale in
    let bytes =
    subst (λ (t : List ℕ). GrewByPrefix (g.O.Sink.taken c.args.out.now) (g.O.Sink.taken c.write_piece.new.out) t)
    c.as_bytes.ensures.value c.in_err-write_piece.ensures.part in
    let is = subst (λ e. IsProbeText c.args.start c.args.count c.args.rounds e (string_bytes c.in_ok-text.text))
    c.in-Some.ensures.value c.in_ok-text.ensures in
    ended_by g.O.Sink.taken g.O.Sink.faults task [] c.args.out.now c.write_piece.new.out
    c.from_residual-in_err-write_piece.result WriteFault c.from_residual-in_err-write_piece.ensures.1
    (ended_stopped g.O.Sink.taken g.O.Sink.faults c.args.out.now c.write_piece.new.out task [] WriteFault
    (inl (refl, c.in_err-write_piece.ensures.fault)) (string_bytes c.in_ok-text.text, is, bytes))
