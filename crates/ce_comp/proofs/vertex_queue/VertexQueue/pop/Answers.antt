use Rattle.std.proofs.Common.{◌≡◌, ◌≤◌, ◌∷◌, ℕ, List, false, heap_items, map, subst}
use Rattle.std.specs.List.Sorted.{IsPermutation}
use Rattle.std.specs.Ordering.{is_lt, nat_cmp}
use Rattle.std.specs.declared.cmp.Reverse.{Reverse}
use Rattle.std.proofs.lemmas.List.Elements.{All-from_recursion, All-map, All-weaker}
use Rattle.std.proofs.lemmas.List.Sorted.{IsPermutation-map}
use Rattle.std.proofs.lemmas.Map.Keys.{ge_from_not_lt}
use Rattle.ce_comp.proofs.vertex_queue.VertexQueue.pop.Goals as goal

pub returns-clause-least : goal.returns-clause-least
returns-clause-least c =
    let top = c.in_ok-top.top.0 in
    let rest = heap_items c.pop.new.self in
    All-map (λ x. top ≤ x) (λ (v : Reverse ℕ). v.0) rest
    (All-weaker (λ (v : Reverse ℕ). is_lt (nat_cmp v.0 top) ≡ false) (λ (v : Reverse ℕ). top ≤ v.0)
    (λ v above. ge_from_not_lt v.0 top above) rest
    (All-from_recursion (λ (v : Reverse ℕ). is_lt (nat_cmp v.0 top) ≡ false) rest
    (c.in_ok-top.ensures.below_top c.self.invariant)))

pub returns-clause-taken : goal.returns-clause-taken
returns-clause-taken c = subst (λ (xs : List ℕ). IsPermutation xs
    (c.in_ok-top.top.0 ∷ map (λ (v : Reverse ℕ). v.0) (heap_items c.pop.new.self))) c.self.view_is
    (IsPermutation-map (λ (v : Reverse ℕ). v.0) _ _ c.in_ok-top.ensures.permutation)
