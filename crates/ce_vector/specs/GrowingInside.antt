-- The vertices whose entries grow in power iteration: those with a successor in their block. All
-- others keep theirs.
use Rattle.std.specs.Prelude.{◌≡◌, ◌⊎◌, ◌<◌, ℕ, List, [], length, All, Contains, slice_index}
use Rattle.ce_rows.specs.Blocks.{block_successors}
use Rattle.ce_rows.specs.declared.row.Row.{Row}

-- A list of the vertices that have a successor in their block: of these only, and of all of them.
pub record AreGrowing (list : List Row) (ranks vertices : List ℕ) : Type 0 where
  pub below : All (λ i. i < length list) vertices
  pub each : All (λ i. ¬ (block_successors list ranks i ≡ [])) vertices
  pub all : (i : ℕ) → i < length list → (block_successors list ranks i ≡ []) ⊎ Contains vertices i

-- Two vectors have the same entry at each vertex without a successor in its block.
abbrev pub AgreeAtRest : List Row → List ℕ → List ℕ → List ℕ → Type 0
AgreeAtRest list ranks v w =
    (i : ℕ) → i < length list → block_successors list ranks i ≡ [] → slice_index v i ≡ slice_index w i
