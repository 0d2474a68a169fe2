use Rattle.std.proofs.Common.{◌≡◌, length}
use Rattle.ce_comp.proofs.Counting.{AreCounts}
use Rattle.ce_comp.proofs.order.counted.Given as goal

abbrev pub invariant-loop-source : goal.invariant-loop-source
invariant-loop-source l = record {
  each : length l.left.items ≡ l.count;
  counts : AreCounts l.sources l.left.items l.count l.source-index;
}
