use Rattle.std.proofs.Common.{◌≤◌, ◌++◌, take, string_bytes}
use Rattle.std.specs.Prelude.{codes}
use Rattle.std.specs.Fmt.{decimal}
use Rattle.ce_port.specs.Pieces.{GrewAllBut}
use Rattle.core_entropy.specs.Show.{spaced}
use Rattle.core_entropy.proofs.commands.replay.write_entries.Given as goal

abbrev pub invariant-loop-i : goal.invariant-loop-i
invariant-loop-i g l = record {
  grew : GrewAllBut (g.O.Sink.taken l.fn.out) (g.O.Sink.taken l.out) (string_bytes l.page)
      (string_bytes l.fn.page ++ (codes "entries" ++ spaced decimal (take l.i l.core.machine.shared.entries)));
  counted : g.O.Sink.faults l.fn.out ≤ g.O.Sink.faults l.out;
}
