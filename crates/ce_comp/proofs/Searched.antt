-- The search of any rows comes to its end, so they have components: the steps that the code takes,
-- on plain states.
use Rattle.std.proofs.Common.{◌≡◌, ◌≢◌, ◌<◌, ◌≤◌, ◌-◌, ◌⊎◌, ◌∙◌, ℕ, zero, suc, List, [], ◌∷◌, length, get_or, map}
use Rattle.std.proofs.Common.{replicate, refl, sym, ap, inl, inr, arith, All, Contains}
use Rattle.std.proofs.lemmas.Bool.{cases_lt}
use Rattle.std.proofs.lemmas.List.{get_or_default, get_or_past, get_or-replicate, length-replicate}
use Rattle.std.proofs.lemmas.List.Elements.{All-nil}
use Rattle.std.proofs.lemmas.List.Sums.{count_by-le-length}
use Rattle.ce_rows.specs.Rows.{AreRows}
use Rattle.ce_rows.specs.declared.row.Row.{Row}
use Rattle.ce_comp.proofs.Closing.{closing_is_search}
use Rattle.ce_comp.proofs.Deciding.{IsDecided, search_least}
use Rattle.ce_comp.proofs.Finished.{finished}
use Rattle.ce_comp.proofs.Lists.{all_upto_last}
use Rattle.ce_comp.proofs.Opening.{opening_is_search}
use Rattle.ce_comp.proofs.Steps.{closed_less, edges_below, opened_less, opened_step, merged_step, merged_less}
use Rattle.ce_comp.proofs.Steps.{settled_step, settled_less, target_within}
use Rattle.ce_comp.specs.Reach.{AreComponents}
use Rattle.ce_comp.specs.SearchInside.{State, IsSearch, IsLast, mark_at, is_new, number_of, starting, opened, settled}
use Rattle.ce_comp.specs.SearchInside.{merged, closed, work}
use Rattle.ce_comp.specs.declared.mark.Edge.{Edge}
use Rattle.ce_comp.specs.declared.mark.Mark.{Mark}
use Rattle.ce_comp.specs.declared.mark.Mark.TheVariants.{New, Open, Closed}

last_or_none : {X : Type 0} (xs : List X) → (xs ≡ []) ⊎ ((x : X) × IsLast x xs)
last_or_none [] = inl refl
last_or_none (x ∷ xs) =
    let y = get_or (x ∷ xs) (length (x ∷ xs) - 1) x in
    inr (
      y,
      record {
        some = omega arith;
        last = get_or_default (x ∷ xs) (length (x ∷ xs) - 1) y x (omega arith);
      },
    )

none_there : {X : Type 0} (xs : List X) (x : X) → xs ≡ [] → Contains xs x → ⊥
none_there xs x none h = let long = ap (λ ys. length ys) none in let within = h.1 in omega arith

unseen : (n v : ℕ) → mark_at (replicate n New) v ≡ New
unseen n v = elim (cases_lt v n) [
  | inl within ↦ get_or-replicate n v New New within
  | inr past ↦ get_or_past (replicate n New) v New (omega (arith, length-replicate n New))
]

decided_new : (m : Mark) → IsDecided (m ≡ New)
decided_new New = inl refl
decided_new (Open p) = inr (λ e. cc)
decided_new (Closed c) = inr (λ e. cc)

module _ (list : List Row) where
  start : AreRows list → IsSearch list (starting (length list))
  start rows =
      let n = length list in
      let long = length-replicate n New in
      let open_none : (v p : ℕ) → mark_at (replicate n New) v ≡ Open p → ⊥ = λ v p e. let clash : New ≡ Open p =
      sym (unseen n v) ∙ e in cc in
      let closed_none : (v c : ℕ) → mark_at (replicate n New) v ≡ Closed c → ⊥ = λ v c e. let clash : New ≡ Closed c =
      sym (unseen n v) ∙ e in cc in
      record {
        rows = rows;
        each = long;
        room = omega (arith, count_by-le-length is_new (replicate n New));
        stack = record { marked = λ p less. absurd (omega arith); place = λ v p e. absurd (open_none v p e) };
        upward = λ p q order less. absurd (omega arith);
        downward = λ p q order less one. absurd (omega arith);
        bottom = λ some. absurd (omega arith);
        bottoms_rise = λ i j d less inside. absurd (omega arith);
        bottoms_within = All-nil (λ b. b < 0);
        edges_rise = λ i j d less inside. absurd (omega arith);
        edges_are = λ k d less. absurd (omega arith);
        others_settled = λ p w less leads. absurd (omega arith);
        numbered = λ v c e. absurd (closed_none v c e);
        no_gap = λ c less. absurd (omega arith);
        together = λ v w c e f. absurd (closed_none v c e);
        never_rises = λ v c w e leads. absurd (closed_none v c e);
      }

  -- one step on
  record IsStep (s t : State) : Type 0 where
    search : IsSearch list t
    less : work t < work s

  close : (s : State) (b : ℕ) → IsSearch list s → IsLast b s.bottoms → All (λ (e : Edge). e.place < b) s.edges
      → (t : State) × IsStep s t
  close s b h last none =
      (closed s b, record { search = closing_is_search list s h b last none; less = closed_less s b last })

  follow : (s : State) (e : Edge) (m : Mark) → IsSearch list s → IsLast e s.edges → All (λ b. b ≤ e.place) s.bottoms
      → mark_at s.marks e.target ≡ m → (t : State) × IsStep s t
  follow s e New h last top is = (
    opened list s e.target,
    record {
      search = opened_step list s h e last top is;
      less = opened_less list s h e.target (target_within list s h e last) is;
    },
  )
  follow s e (Open q) h last top is = (
    settled (merged s q),
    record { search = merged_step list s h e last top q is; less = merged_less list s h e last q },
  )
  follow s e (Closed c) h last top is =
      (settled s, record { search = settled_step list s h e last c is; less = settled_less list s h e last })

  step : (s : State) (b : ℕ) → IsSearch list s → IsLast b s.bottoms → (t : State) × IsStep s t
  step s b h last = elim (last_or_none s.edges) [
    | inl none ↦ close s b h last (rw none (All-nil (λ (e : Edge). e.place < b)))
    | inr (e, top) ↦ elim (cases_lt e.place b) [
      | inl low ↦ close s b h last (edges_below s.edges e b h.edges_rise top low)
      | inr high ↦ follow s e (mark_at s.marks e.target) h top
          (λ k d less. let most = all_upto_last s.bottoms b h.bottoms_rise last k d less in omega arith) refl
    ]
  ]

  -- nothing left to do
  record IsDone (s : State) : Type 0 where
    closed : s.stack ≡ []
    seen : (v : ℕ) → v < length list → mark_at s.marks v ≢ New

  -- where no vertex is open, a new one is opened if there is one
  visit : (s : State) → IsSearch list s → s.stack ≡ [] → ((t : State) × IsStep s t) ⊎ IsDone s
  visit s h empty = elim (search_least (λ v. mark_at s.marks v ≡ New) (length list)
      (λ v less. decided_new (mark_at s.marks v))) [
        | inl (v, found) ↦
            let none : length s.stack ≡ 0 = ap (λ xs. length xs) empty in
            inl (
              opened list s v,
              record {
                search = opening_is_search list s v h found.within found.here (λ p less. absurd (omega arith));
                less = opened_less list s h v found.within found.here;
              },
            )
        | inr seen ↦ inr (record { closed = empty; seen = seen })
      ]

  next : (s : State) → IsSearch list s → ((t : State) × IsStep s t) ⊎ IsDone s
  next s h = elim (last_or_none s.bottoms) [
    | inl none ↦ visit s h (elim (last_or_none s.stack) [
      | inl empty ↦ empty
      | inr (x, some) ↦ absurd (none_there s.bottoms 0 none (h.bottom some.some))
    ])
    | inr (b, last) ↦ inl (step s b h last)
  ]

  run : (fuel : ℕ) (s : State) → IsSearch list s → work s < fuel
      → (of_vertex : List ℕ) × (count : ℕ) × AreComponents list of_vertex count
  run zero s h enough = absurd (omega arith)
  run (suc fuel) s h enough = elim (next s h) [
    | inl (t, on) ↦ let less = on.less in run fuel t on.search (omega arith)
    | inr done ↦ (map number_of s.marks, s.count, finished list s h done.closed done.seen)
  ]

  pub components_exist : AreRows list → (of_vertex : List ℕ) × (count : ℕ) × AreComponents list of_vertex count
  components_exist rows =
      let s = starting (length list) in run (suc (work s)) s (start rows) (omega arith)
