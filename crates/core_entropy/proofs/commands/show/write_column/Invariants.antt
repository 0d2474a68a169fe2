use Rattle.std.proofs.Common.{◌≤◌, string_bytes}
use Rattle.ce_port.specs.Pieces.{GrewAllBut}
use Rattle.ce_thurston.specs.Indices.{pairs_below}
use Rattle.core_entropy.specs.Show.{pair_line}
use Rattle.core_entropy.proofs.Rows.{so_far}
use Rattle.core_entropy.proofs.commands.show.write_column.Given as goal

abbrev pub invariant-loop-i : goal.invariant-loop-i
invariant-loop-i g l = record {
  grew : GrewAllBut (g.O.Sink.taken l.fn.out) (g.O.Sink.taken l.out) (string_bytes l.page)
      (so_far (pair_line l.orbit) (pairs_below l.j) (string_bytes l.fn.page) l.i);
  counted : g.O.Sink.faults l.fn.out ≤ g.O.Sink.faults l.out;
}
