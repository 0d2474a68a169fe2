use Rattle.std.proofs.Common.{◌+◌, get_or}
use Rattle.ce_rows.specs.Blocks.{block_sum_of}
use Rattle.ce_vector.proofs.Growing.{IsEachOldOrNew, AreFirstNew}
use Rattle.ce_vector.proofs.iteration.round_of_growing.Given as goal

abbrev pub invariant-loop-vertex : goal.invariant-loop-vertex
invariant-loop-vertex l = record {
  each : IsEachOldOrNew (λ i. get_or l.from i 0 + block_sum_of l.rows.list l.ranks l.from i) l.initial.to l.to;
  first : AreFirstNew (λ i. get_or l.from i 0 + block_sum_of l.rows.list l.ranks l.from i) l.growing l.to
      l.vertex-index;
}
