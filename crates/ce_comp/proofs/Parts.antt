-- Components of vertices, and components that are ready.
use Rattle.std.proofs.Common.{◌≡◌, ◌<◌, ◌≤◌, ◌^◌, ◌∙◌, ℕ, zero, suc, List, length, get_or, inl, inr, sym, ap, subst}
use Rattle.std.proofs.Common.{arith}
use Rattle.std.specs.List.{All}
use Rattle.std.proofs.lemmas.Bool.{cases_lt}
use Rattle.std.proofs.lemmas.List.{get_or_default}
use Rattle.ce_rows.specs.Rows.{AreRows, successors_in}
use Rattle.ce_rows.specs.declared.row.Row.{Row}
use Rattle.ce_rows.specs.declared.row.Row.TheVariants.{One}
use Rattle.ce_comp.specs.Reach.{AreComponents}
use Rattle.ce_comp.specs.MembersInside.{AreMembers}
use Rattle.ce_comp.specs.NumbersInside.{Condensation, IsCondensation, IsOpen, IsReadyAt, AreNumbered, part}
use Rattle.ce_comp.specs.SettlingInside.{condensation}

-- A component has a vertex, and the first one stands in the list of first ones.
pub record HasFirst (g : Condensation) (c : ℕ) : Type 0 where
  pub within : get_or g.first c 0 < length g.list
  pub here : part g (get_or g.first c 0) ≡ c

-- What is ready at r is ready at s, if numbers below r are below s there.
pub ready_weaker : (g : Condensation) (numbers more : List ℕ) (r s c : ℕ)
    → ((d : ℕ) → get_or numbers d 0 < r → get_or more d 0 < s) → IsReadyAt g numbers r c → IsReadyAt g more s c
ready_weaker g numbers more r s c weaker h x within own k d place = elim (h x within own k d place) [
  | inl less ↦ inl (weaker (part g (get_or (successors_in g.list x) k d)) less)
  | inr same ↦ inr same
]

module _ (g : Condensation) (h : IsCondensation g) where
  pub part_below : (x : ℕ) → x < length g.list → part g x < g.count
  part_below x within = let same = h.components.each in h.components.below x 0 (omega arith)

  pub target_below : (x : ℕ) → x < length g.list → All (λ y. y < length g.list) (successors_in g.list x)
  target_below x within = h.rows.within x (One 0) within

  pub has_first : (c : ℕ) → c < g.count → HasFirst g c
  has_first c below =
      let same = h.components.each in
      let first = h.first_of c below in
      let (k, in_list, at) = h.components.some c below in
      let within : get_or g.first c 0 < length g.list = elim (cases_lt (get_or g.first c 0) (length g.list)) [
        | inl less ↦ less
        | inr past ↦ absurd (first.none k (omega arith) (omega arith) (get_or_default g.of_vertex k 0 c in_list ∙ at))
      ] in
      record { within = within; here = first.here (omega arith) }

  pub firsts_apart : (c d : ℕ) → c < g.count → d < g.count → get_or g.first c 0 ≡ get_or g.first d 0 → c ≡ d
  firsts_apart c d c_within d_within same =
      sym (has_first c c_within).here ∙ ap (λ x. part g x) same ∙ (has_first d d_within).here

  module _ (numbers : List ℕ) (next : ℕ) (given : AreNumbered g numbers next) where
    -- Numbers below the count are below the next one.
    pub ready_next : (c : ℕ) → IsReadyAt g numbers g.count c → IsReadyAt g numbers next c
    ready_next c ready x within own k d place = elim (ready x within own k d place) [
      | inl less ↦ inl (elim (given.below (part g (get_or (successors_in g.list x) k d))
          (part_below (get_or (successors_in g.list x) k d) (target_below x within k d place))) [
            | inl below ↦ below
            | inr above ↦ absurd (omega arith)
          ])
      | inr same ↦ inr same
    ]

    -- Edges lead to no greater number of a component, so the least one without a number is ready.
    numbered_below : ((c : ℕ) → IsOpen g numbers c → IsReadyAt g numbers g.count c → ⊥) → (n c : ℕ) → c < n
        → c < g.count → get_or numbers c 0 < g.count
    numbered_below none zero c less within = absurd (omega arith)
    numbered_below none (suc n) c less within = elim (cases_lt (get_or numbers c 0) g.count) [
      | inl done ↦ done
      | inr above ↦ absurd (none c (record { within = within; open_yet = above }) (λ x inside own k d place.
          let falls : part g (get_or (successors_in g.list x) k d) ≤ part g x =
          h.components.never_rises x inside k d place in
          elim (cases_lt (part g (get_or (successors_in g.list x) k d)) c) [
            | inl lower ↦ inl (numbered_below none n (part g (get_or (successors_in g.list x) k d)) (omega arith)
                (omega arith))
            | inr own_too ↦ inr (omega arith)
          ]))
    ]

    pub all_numbered : ((c : ℕ) → IsOpen g numbers c → IsReadyAt g numbers g.count c → ⊥) → (c : ℕ) → c < g.count
        → get_or numbers c 0 < g.count
    all_numbered none c within = numbered_below none (suc c) c (omega arith) within

-- The components that the search gave, with the least vertex of each, as f reads these.
pub condensed : (list : List Row) (of_vertex : List ℕ) (count : ℕ) (first next f : List ℕ) → AreRows list
    → AreComponents list of_vertex count → AreMembers of_vertex count first next → count < 2 ^ 32 → f ≡ first
    → IsCondensation (condensation list of_vertex f)
condensed list of_vertex count first next f rows components members few read =
    rw read (subst (λ n. IsCondensation (record { list = list; of_vertex = of_vertex; count = n; first = first }))
    (sym members.firsts)
    (record { rows = rows; components = components; firsts = members.firsts; first_of = members.first_of; few = few }))
