use Rattle.std.proofs.Common.{◌≤◌, string_bytes}
use Rattle.ce_port.specs.Pieces.{GrewAllBut}
use Rattle.core_entropy.specs.Watch.{reading_line}
use Rattle.core_entropy.proofs.Rows.{so_far}
use Rattle.core_entropy.proofs.commands.watch.write_readings.Given as goal

abbrev pub invariant-loop-k : goal.invariant-loop-k
invariant-loop-k g l = record {
  grew : GrewAllBut (g.O.Sink.taken l.fn.out) (g.O.Sink.taken l.out) (string_bytes l.page)
      (so_far reading_line l.readings (string_bytes l.fn.page) l.k);
  counted : g.O.Sink.faults l.fn.out ≤ g.O.Sink.faults l.out;
}
