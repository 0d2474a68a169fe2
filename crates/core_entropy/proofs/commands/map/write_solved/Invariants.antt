use Rattle.std.proofs.Common.{◌≤◌, List}
use Rattle.ce_map.specs.Grammar.{Item, item_text}
use Rattle.ce_port.specs.Pieces.{GrewAllBut}
use Rattle.core_entropy.specs.MapInside.{AreItemsOf}
use Rattle.core_entropy.proofs.Rows.{so_far}
use Rattle.core_entropy.proofs.commands.map.write_solved.Given as goal

abbrev pub invariant-loop-k : goal.invariant-loop-k
invariant-loop-k g l = record {
  grew : (items : List Item) → AreItemsOf l.angles l.solutions.classes.of.items l.solutions.solved.items items
      → GrewAllBut (g.O.Sink.taken l.fn.out) (g.O.Sink.taken l.out) l.page.items
      (so_far (item_text 2) items l.fn.page.items l.k);
  counted : g.O.Sink.faults l.fn.out ≤ g.O.Sink.faults l.out;
}
