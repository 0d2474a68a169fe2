use Rattle.std.proofs.Common.{◌≡◌, ◌≤◌, ℕ, List, drop, length}
use Rattle.ce_map.specs.Grammar.{Item, item_text}
use Rattle.ce_port.specs.Pieces.{GrewAllBut}
use Rattle.core_entropy.specs.UpgradeInside.{AreLeft}
use Rattle.core_entropy.proofs.Rows.{so_far}
use Rattle.core_entropy.proofs.commands.upgrade.write_items.Given as goal

abbrev pub invariant-loop-i : goal.invariant-loop-i
invariant-loop-i g l = record {
  walk : (version : ℕ) (items : List Item) → AreLeft version items l.fn.view → length items ≡ l.count
      → AreLeft version (drop l.i items) l.view;
  grew : (version : ℕ) (items : List Item) → AreLeft version items l.fn.view → length items ≡ l.count
      → GrewAllBut (g.O.Sink.taken l.fn.out) (g.O.Sink.taken l.out) l.page.items
      (so_far (item_text 2) items l.fn.page.items l.i);
  counted : g.O.Sink.faults l.fn.out ≤ g.O.Sink.faults l.out;
}
