use Rattle.std.proofs.Common.{◌≡◌, ◌<◌, ◌-◌, length, get_or}
use Rattle.ce_comp.specs.SettlingInside.{standing, IsHoldingFrom, IsSettling}
use Rattle.ce_comp.proofs.order.Progress.settle_all.Given as goal

abbrev pub invariant-loop-edge : goal.invariant-loop-edge
invariant-loop-edge l = record {
  numbers : l.self.numbers.items ≡ l.initial.self.numbers.items;
  into : l.edge < length l.edges.sources.items → get_or l.edges.targets.items l.edge 0 ≡ l.component;
  settling : IsSettling l.first l.edges.sources.items
      (IsHoldingFrom l.first l.edges.targets.items l.self.numbers.items l.component l.edge) (standing l.self);
}

abbrev pub decreases-loop-edge : goal.decreases-loop-edge
decreases-loop-edge l = length l.edges.sources.items - l.edge
