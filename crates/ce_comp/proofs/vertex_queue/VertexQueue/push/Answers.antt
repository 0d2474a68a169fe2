use Rattle.std.proofs.Common.{◌∷◌, ℕ, List, heap_items, map, subst}
use Rattle.std.specs.List.Sorted.{IsPermutation}
use Rattle.std.specs.declared.cmp.Reverse.{Reverse}
use Rattle.std.proofs.lemmas.List.Sorted.{IsPermutation-map}
use Rattle.ce_comp.proofs.vertex_queue.VertexQueue.push.Goals as goal

pub returns : goal.returns
returns c = subst (λ (xs : List ℕ). IsPermutation (c.args.vertex ∷ xs)
    (map (λ (v : Reverse ℕ). v.0) (heap_items c.push.new.self))) c.self.view_is
    (IsPermutation-map (λ (v : Reverse ℕ). v.0) _ _ c.in_ok-push.ensures.permutation)
