use Rattle.std.proofs.Common.{◌≤◌, string_bytes}
use Rattle.ce_port.specs.Pieces.{GrewAllBut}
use Rattle.core_entropy.proofs.ShowPlaces.{columns}
use Rattle.core_entropy.proofs.commands.show.write_columns.Given as goal

abbrev pub invariant-loop-j : goal.invariant-loop-j
invariant-loop-j g l = record {
  grew : GrewAllBut (g.O.Sink.taken l.fn.out) (g.O.Sink.taken l.out) (string_bytes l.page)
      (columns l.orbit (string_bytes l.fn.page) l.j);
  counted : g.O.Sink.faults l.fn.out ≤ g.O.Sink.faults l.out;
}
