-- One more edge between components, and the edges of one more vertex.
use Rattle.std.proofs.Common.{◌≡◌, ◌+◌, ◌<◌, ◌≤◌, ◌++◌, ◌∷◌, [], ◌∙◌, ℕ, List, length, get_or, inl, inr, refl, ap}
use Rattle.std.proofs.Common.{subst, arith}
use Rattle.std.specs.List.{All, Contains}
use Rattle.std.proofs.lemmas.Bool.{cases_lt}
use Rattle.std.proofs.lemmas.List.{get_or_append_left, get_or_push, length_push}
use Rattle.std.proofs.lemmas.List.Elements.{All-contains, All-from_get_or, All-cons, All-nil, All-weaker}
use Rattle.ce_rows.specs.Rows.{row_at, successors_in}
use Rattle.ce_rows.specs.declared.row.Row.{Row}
use Rattle.ce_rows.specs.declared.row.Row.TheVariants.{One, Two}
use Rattle.ce_comp.specs.NumbersInside.{Condensation, IsCondensation}
use Rattle.ce_comp.proofs.Parts.{part_below, target_below}
use Rattle.ce_comp.specs.SettlingInside.{AreEdges, IsAdded, IsEdge, IsListed}

-- Edges between components, of which no more is said than that.
pub record AreSome (list : List Row) (of_vertex sources targets : List ℕ) : Type 0 where
  pub each : length targets ≡ length sources
  pub are : (k : ℕ) → k < length sources → IsEdge list of_vertex (get_or sources k 0) (get_or targets k 0)

module _ (list : List Row) (of_vertex sources targets more_sources more_targets : List ℕ) where
  -- what one more edge leaves
  pub record IsMore (c d : ℕ) : Type 0 where
    pub some : AreSome list of_vertex more_sources more_targets
    pub long : length more_sources ≤ length sources + 1
    pub keeps : (a b : ℕ) → IsListed sources targets a b → IsListed more_sources more_targets a b
    pub here : IsListed more_sources more_targets c d

module _ (list : List Row) (of_vertex sources targets : List ℕ) where
  pushed : (c d : ℕ) → AreSome list of_vertex sources targets → IsEdge list of_vertex c d
      → IsMore list of_vertex sources targets (sources ++ c ∷ []) (targets ++ d ∷ []) c d
  pushed c d old edge =
      let same = old.each in
      let long_from = length_push sources c in
      let long_to = length_push targets d in
      record {
        some = record {
          each = omega arith;
          are = λ k less. elim (cases_lt k (length sources)) [
            | inl before ↦ rw (
              get_or_append_left sources (c ∷ []) 0 k before,
              get_or_append_left targets (d ∷ []) 0 k (omega arith),
            ) (old.are k before)
            | inr past ↦ rw (get_or_push sources c 0 k (omega arith), get_or_push targets d 0 k (omega arith)) edge
          ];
        };
        long = omega arith;
        keeps = λ a b listed. elim listed [
          | inl one ↦ inl one
          | inr (k, less, k_from, k_to) ↦ inr (
            k,
            omega arith,
            get_or_append_left sources (c ∷ []) 0 k less ∙ k_from,
            get_or_append_left targets (d ∷ []) 0 k (omega arith) ∙ k_to,
          )
        ];
        here = inr (
          length sources,
          omega arith,
          get_or_push sources c 0 (length sources) refl,
          get_or_push targets d 0 (length sources) same,
        );
      }

module _ (list : List Row) (of_vertex sources targets more_sources more_targets : List ℕ) where
  pub added : (x y : ℕ) → AreSome list of_vertex sources targets → x < length list → Contains (successors_in list x) y
      → IsAdded sources targets more_sources more_targets (get_or of_vertex x 0) (get_or of_vertex y 0)
      → IsMore list of_vertex sources targets more_sources more_targets (get_or of_vertex x 0) (get_or of_vertex y 0)
  added x y old within edge (inl (one, from, to)) = record {
    some = rw (from, to) old;
    long = let long = ap (λ (xs : List ℕ). length xs) from in omega arith;
    keeps = λ a b listed. rw (from, to) listed;
    here = inl one;
  }
  added x y old within edge (inr (apart, from, to)) = rw (from, to)
      (pushed list of_vertex sources targets (get_or of_vertex x 0) (get_or of_vertex y 0) old (record {
        source = x;
        target = y;
        within = within;
        edge = edge;
        of_source = refl;
        of_target = refl;
        apart = apart;
      }))

module _ (list : List Row) (of_vertex : List ℕ) where
  -- the vertices below v have all their edges, and those of v are known
  row_added : (sources targets more_sources more_targets : List ℕ) (v : ℕ) → AreEdges list of_vertex sources targets v
      → AreSome list of_vertex more_sources more_targets → length more_sources ≤ length sources + 2
      → ((a b : ℕ) → IsListed sources targets a b → IsListed more_sources more_targets a b)
      → All (λ y. IsListed more_sources more_targets (get_or of_vertex v 0) (get_or of_vertex y 0))
      (successors_in list v) → AreEdges list of_vertex more_sources more_targets (v + 1)
  row_added sources targets more_sources more_targets v old some long keeps here = record {
    each = some.each;
    few = let few = old.few in omega arith;
    are = some.are;
    all = λ x less. elim (cases_lt x v) [
      | inl before ↦ All-weaker (λ y. IsListed sources targets (get_or of_vertex x 0) (get_or of_vertex y 0))
          (λ y. IsListed more_sources more_targets (get_or of_vertex x 0) (get_or of_vertex y 0))
          (λ y listed. keeps (get_or of_vertex x 0) (get_or of_vertex y 0) listed) (successors_in list x)
          (old.all x before)
      | inr last ↦
          let same : v ≡ x = omega arith in
          subst (λ m. All (λ y. IsListed more_sources more_targets (get_or of_vertex m 0) (get_or of_vertex y 0))
          (successors_in list m)) same here
    ];
  }

  pub one_added : (s t s1 t1 : List ℕ) (v x : ℕ) → AreEdges list of_vertex s t v → v < length list
      → row_at list v ≡ One x → IsAdded s t s1 t1 (get_or of_vertex v 0) (get_or of_vertex x 0)
      → AreEdges list of_vertex s1 t1 (v + 1)
  one_added s t s1 t1 v x old within row add =
      let some : AreSome list of_vertex s t = record { each = old.each; are = old.are } in
      let first = added list of_vertex s t s1 t1 v x some within (rw row (0, omega arith, refl)) add in
      let long = first.long in
      row_added s t s1 t1 v old first.some (omega arith) first.keeps
      (rw row (All-cons (λ y. IsListed s1 t1 (get_or of_vertex v 0) (get_or of_vertex y 0)) x [] first.here
      (All-nil (λ y. IsListed s1 t1 (get_or of_vertex v 0) (get_or of_vertex y 0)))))

  pub two_added : (s t s1 t1 s2 t2 : List ℕ) (v x z : ℕ) → AreEdges list of_vertex s t v → v < length list
      → row_at list v ≡ Two x z → IsAdded s t s1 t1 (get_or of_vertex v 0) (get_or of_vertex x 0)
      → IsAdded s1 t1 s2 t2 (get_or of_vertex v 0) (get_or of_vertex z 0) → AreEdges list of_vertex s2 t2 (v + 1)
  two_added s t s1 t1 s2 t2 v x z old within row add add_more =
      let some : AreSome list of_vertex s t = record { each = old.each; are = old.are } in
      let first = added list of_vertex s t s1 t1 v x some within (rw row (0, omega arith, refl)) add in
      let second = added list of_vertex s1 t1 s2 t2 v z first.some within (rw row (1, omega arith, refl)) add_more in
      let long = first.long in
      let more = second.long in
      row_added s t s2 t2 v old second.some (omega arith) (λ a b listed. second.keeps a b (first.keeps a b listed))
      (rw row (All-cons (λ y. IsListed s2 t2 (get_or of_vertex v 0) (get_or of_vertex y 0)) x (z ∷ [])
      (second.keeps (get_or of_vertex v 0) (get_or of_vertex x 0) first.here)
      (All-cons (λ y. IsListed s2 t2 (get_or of_vertex v 0) (get_or of_vertex y 0)) z [] second.here
      (All-nil (λ y. IsListed s2 t2 (get_or of_vertex v 0) (get_or of_vertex y 0))))))

-- The edges lead to components.
module _ (g : Condensation) (h : IsCondensation g) (sources targets : List ℕ)
    (edges : AreEdges g.list g.of_vertex sources targets (length g.list)) where
  pub targets_below : All (λ c. c < g.count) targets
  targets_below = All-from_get_or (λ c. c < g.count) targets 0 (λ k less.
      let e = edges.are k (let each = edges.each in omega arith) in
      let to = e.of_target in
      let inside : e.target < length g.list = All-contains (λ y. y < length g.list) (successors_in g.list e.source)
      e.target (target_below g h e.source e.within) e.edge in
      omega (arith, part_below g h e.target inside))
