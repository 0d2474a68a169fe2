-- Each entry keeps its one owner, and holds its owner's last value, after each step of a seat.
use Rattle.std.proofs.Common.{◌≡◌, ℕ, ◌^◌, ◌<◌, ◌≤◌, ◌≢◌, Bool, false, cond, eqb, eq-eqb, ne_eqb, List, [], ◌∷◌, ◌++◌}
use Rattle.std.proofs.Common.{length, slice_index, set, sym, refl, ap, ◌∙◌, subst, ⊎_elim, arith, length-set}
use Rattle.std.proofs.Common.{get_or-set_other, get_or-set_same}
use Rattle.std.proofs.lemmas.List.Elements.{All-set}
use mathlib.Core.Logic.{dite}
use mathlib.Core.Option.{some}
use native.Mathlib.Decide.{ℕ_discrete}
use lib.ListN.{get_elem?}
use Rattle.atomic_table.proofs.Lists.{at_set}
use Rattle.ce_cert.specs.Vectors.{IsVectorOf}
use Rattle.ce_rows.specs.Events.{Shared, after_act, answer_of}
use Rattle.ce_rows.specs.declared.act.Act.{Act}
use Rattle.ce_rows.specs.declared.act.Act.TheVariants.{Relaxes, Shrinks}
use Rattle.ce_rows.specs.declared.act.LogEntry.{LogEntry}
use Rattle.ce_words.specs.Invariant.{HoldsLast, HaveOwners}
use Rattle.ce_words.specs.Logs.{total, stores_to, last_value, in_part, by_place, weigh, Each}
use Rattle.ce_words.specs.Steps.{MayStep}
use Rattle.ce_words.specs.Views.{rows_of, part, logged, noted}
use Rattle.ce_words.specs.declared.view.Run.{Run}
use Rattle.ce_words.specs.declared.view.Place.{Place}
use Rattle.ce_words.specs.declared.view.View.{View}
use Rattle.ce_words.proofs.Counts.{noted_places, owners_same}
use Rattle.ce_words.proofs.Logs.{last_value-snoc, in_part_le, in_part_below}
use Rattle.ce_words.proofs.Sums.{term_le, terms_le}

-- a store at i puts c there, and leaves the rest
stored_at : (i e c x : ℕ) → e ≡ i → cond (eqb i e) c x ≡ c
stored_at i e c x same = ap (λ (b : Bool). cond b c x) (eq-eqb i e (sym same))

stored_else : (i e c x : ℕ) → e ≢ i → cond (eqb i e) c x ≡ x
stored_else i e c x other = ap (λ (b : Bool). cond b c x) (ne_eqb i e (λ z. other (sym z)))

module _ (s : Shared) (views : List View) (id : ℕ) (v : View) (o : HaveOwners v.run s views)
    (at : get_elem? views id ≡ some v) where
  abbrev run : Run
  run = v.run

  -- the step's entry in the log, and the views after it
  abbrev step_of : Act → ℕ → LogEntry
  step_of act c = logged act c (answer_of s act c)

  abbrev views_after : Act → ℕ → List View
  views_after act c = set views id (noted v (step_of act c))

  -- a step that stores to no entry
  quiet_owners : (act : Act) (c : ℕ) → (after_act s act c).entries ≡ s.entries → ((e : ℕ) → stores_to e act ≡ false)
      → HaveOwners run (after_act s act c) (views_after act c)
  quiet_owners act c same quiet =
      let n : LogEntry = step_of act c in
      record {
        owner = λ e. owners_same views id v n at e ∙ o.owner e;
        last = noted_places views id v n at (HoldsLast run s) (HoldsLast run (after_act s act c))
            (λ p h e i. ap (λ (l : List ℕ). slice_index l e) same ∙ h e i)
            (λ e i.
            let old = (o.last id v at).0 e i in
            let start : ℕ = slice_index run.start e in
            ap (λ (l : List ℕ). slice_index l e) same ∙ old
            ∙ sym (last_value-snoc e start v.place.log n ∙ ap
            (λ (b : Bool). cond b n.answer (last_value e start v.place.log)) (quiet e)))
            o.last;
        vector = subst (IsVectorOf (rows_of run)) (sym same) o.vector;
      }

  -- the owner's store
  module _ (act : Act) (i c : ℕ) (mine : in_part i v.place.part ≡ 1) (positive : 1 ≤ c) (small : c ≤ 2 ^ 60)
      (entries : (after_act s act c).entries ≡ set s.entries i c) (answer : answer_of s act c ≡ c)
      (stores_there : (e : ℕ) → stores_to e act ≡ eqb i e) where
    abbrev stored : Shared
    stored = after_act s act c

    inside : i < length s.entries
    inside =
        let here : i < length run.rows = in_part_below i (length run.rows)
        (omega (
          arith,
          o.owner i,
          term_le (by_place (λ (p : Place). in_part i p.part)) views id v at,
          in_part_le
              i (part 0 (length run.rows)),
        )) in
        omega (arith, here, o.vector.each)

    here_now : (e : ℕ) → e ≡ i → slice_index stored.entries e ≡ c
    here_now e is = ap (λ (l : List ℕ). slice_index l e) entries ∙ ap (λ (j : ℕ). slice_index (set s.entries i c) j)
        is ∙ get_or-set_same s.entries i c 0 inside

    else_now : (e : ℕ) → e ≢ i → slice_index stored.entries e ≡ slice_index s.entries e
    else_now e other = ap (λ (l : List ℕ). slice_index l e) entries ∙ get_or-set_other s.entries i e c 0 other

    -- a place without the entry holds its last values still
    others_hold : (p : Place) → in_part i p.part ≡ 0 → HoldsLast run s p → HoldsLast run stored p
    others_hold p out h e there =
        let other : e ≢ i = λ z. let same = ap (λ (y : ℕ). in_part y p.part) z in omega arith in
        else_now e other ∙ h e there

    others_hold_all : (ps : List Place) → total (λ p. in_part i p.part) ps ≡ 0 → Each (HoldsLast run s) ps
        → Each (HoldsLast run stored) ps
    others_hold_all [] z h = tt
    others_hold_all (p ∷ ps) z h = (others_hold p (omega (arith, z)) h.0, others_hold_all ps (omega (arith, z)) h.1)

    own_holds : HoldsLast run s v.place → HoldsLast run stored (noted v (step_of act c)).place
    own_holds h e there =
        let start : ℕ = slice_index run.start e in
        let old : ℕ = last_value e start v.place.log in
        let grown : last_value e start (v.place.log ++ step_of act c ∷ []) ≡ cond (eqb i e) c old =
        last_value-snoc e start v.place.log (step_of act c) ∙ ap (λ (b : Bool). cond b (answer_of s act c) old)
        (stores_there e) ∙ ap (λ (y : ℕ). cond (eqb i e) y old) answer in
        dite (ℕ_discrete e i) (λ is. here_now e is ∙ sym (grown ∙ stored_at i e c old is))
        (λ other. else_now e other ∙ h e there ∙ sym (grown ∙ stored_else i e c old other))

    store_owners : HaveOwners run stored (views_after act c)
    store_owners =
        let n : LogEntry = step_of act c in
        let all : weigh (λ p. in_part i p.part) views ≤ 1 = omega
        (arith, o.owner i, in_part_le i (part 0 (length run.rows))) in
        let at_v = term_le (by_place (λ (p : Place). in_part i p.part)) views id v at in
        record {
          owner = λ e. owners_same views id v n at e ∙ o.owner e;
          last = λ j u d.
              ⊎_elim (λ (t : (j ≡ id) × (noted v n ≡ u)).
              let h = o.last id v at in
              subst (λ (y : View). Each (HoldsLast run stored) (y.place ∷ y.joined)) t.1
              (own_holds h.0, others_hold_all v.joined (omega (arith, all, at_v, mine)) h.1))
              (λ (t : (j ≢ id) × (get_elem? views j ≡ some u)).
              others_hold_all (u.place ∷ u.joined)
              (omega (
                arith,
                all,
                mine,
                terms_le (by_place (λ (p : Place). in_part i p.part)) views id j v u t.0
                    at t.1,
              )) (o.last j u t.1))
              (at_set views id j (noted v n) u d);
          vector = subst (IsVectorOf (rows_of run)) (sym entries) (record {
            each = length-set s.entries i c ∙ o.vector.each;
            positive = All-set (λ y. 1 ≤ y) s.entries i c positive o.vector.positive;
            small = All-set (λ y. y ≤ 2 ^ 60) s.entries i c small o.vector.small;
          });
        }

  pub owners : (act : Act) (c : ℕ) → MayStep v act c → HaveOwners run (after_act s act c) (views_after act c)
  owners (Relaxes i) c may = store_owners (Relaxes i) i c may.0 may.1 may.2 refl refl (λ e. refl)
  owners (Shrinks i) c may = store_owners (Shrinks i) i c may.0 may.1 may.2 refl refl (λ e. refl)
  owners act c may = quiet_owners act c refl (λ e. refl)
