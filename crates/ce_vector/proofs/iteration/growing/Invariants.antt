use Rattle.std.proofs.Common.{◌≡◌, ◌<◌, ◌≤◌, ℕ, [], length}
use Rattle.std.specs.Prelude.{◌⊎◌, All, Contains}
use Rattle.arrayvec.specs.ArrayVec.{array_vec_len}
use Rattle.ce_rows.specs.Blocks.{block_successors}
use Rattle.ce_vector.proofs.iteration.growing.Given as goal

abbrev pub invariant-loop-i : goal.invariant-loop-i
invariant-loop-i l = record {
  few : array_vec_len l.vertices ≤ l.i;
  below : All (λ i. i < length l.rows.list) l.vertices.items;
  each : All (λ i. ¬ (block_successors l.rows.list l.ranks i ≡ [])) l.vertices.items;
  all : (i : ℕ) → i < l.i → (block_successors l.rows.list l.ranks i ≡ []) ⊎ Contains l.vertices.items i;
}
