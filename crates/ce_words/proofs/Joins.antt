-- The first seat keeps the invariant when it joins another.
use Rattle.std.proofs.Common.{◌≡◌, ℕ, ◌+◌, ◌*◌, ◌<◌, ◌≢◌, Bool, cond, eqb}
use Rattle.std.proofs.Common.{List, ◌∷◌, ◌++◌, slice_index, set, sym, refl, ap, ◌∙◌, subst, ⊎_elim, arith}
use mathlib.Core.Option.{some}
use lib.ListN.{get_elem?}
use Rattle.atomic_table.proofs.Lists.{at_set, set_else}
use Rattle.ce_rows.specs.Events.{Shared}
use Rattle.ce_rows.specs.declared.act.Act.{Act}
use Rattle.ce_words.specs.Invariant.{ForPlaces, is_first, is_live, HaveOneFirst, Belongs, IsBehind}
use Rattle.ce_words.specs.Invariant.{HoldsLast, BoardInvariant}
use Rattle.ce_words.specs.Logs.{is_raise, is_lower, is_ask, is_stop, times, halts, in_part, by_place}
use Rattle.ce_words.specs.Logs.{weigh, Each, had, IsPossibleLog}
use Rattle.ce_words.specs.Views.{spent, both_of}
use Rattle.ce_words.specs.declared.view.Run.{Run}
use Rattle.ce_words.specs.declared.view.Place.{Place}
use Rattle.ce_words.specs.declared.view.Role.{Role}
use Rattle.ce_words.specs.declared.view.Role.TheVariants.{First, Other, Spent}
use Rattle.ce_words.specs.declared.view.View.{View}
use Rattle.ce_words.proofs.Logs.{in_part_none, Widens, possible_more}
use Rattle.ce_words.proofs.Seats.{greatest_as, least_as, lone}
use Rattle.ce_words.proofs.Sums.{sum-append, sum-set, terms_le, Each-more, Each-append}

-- the first seat's view v takes in w
module _ (s : Shared) (views : List View) (id : ℕ) (v : View) (other : ℕ) (w : View)
    (k : BoardInvariant v.run s views) (at : get_elem? views id ≡ some v) (ne : other ≢ id)
    (there : get_elem? views other ≡ some w)
    (first : v.role ≡ First) (second : w.role ≡ Other) where
  abbrev whose : Run
  whose = v.run

  abbrev both : View
  both = both_of v w

  abbrev merged : List View
  merged = set (set views id both) other spent

  there_still : get_elem? (set views id both) other ≡ some w
  there_still = set_else views id other both ne ∙ there

  glued : (g : Place → ℕ) → by_place g spent ≡ 0 → weigh g merged ≡ weigh g views
  glued g none = omega (
    arith,
    none,
    sum-set (by_place g) (set views id both) other w spent there_still,
    sum-set
        (by_place g) views id v both at,
    sum-append g v.joined (w.place ∷ w.joined),
  )

  glued_each : (P : View → Type 0) → P both → P spent → ((j : ℕ) (u : View) → get_elem? views j ≡ some u → P u)
      → (j : ℕ) (u : View) → get_elem? merged j ≡ some u → P u
  glued_each P mine gone rest j u e =
      ⊎_elim (λ (t : (j ≡ other) × (spent ≡ u)). subst P t.1 gone)
      (λ (t : (j ≢ other) × (get_elem? (set views id both) j ≡ some u)).
      ⊎_elim (λ (r : (j ≡ id) × (both ≡ u)). subst P r.1 mine)
      (λ (r : (j ≢ id) × (get_elem? views j ≡ some u)). rest j u r.1) (at_set views id j both u t.1))
      (at_set (set views id both) other j spent u e)

  glued_places : (P Q : Place → Type 0) → ((q : Place) → P q → Q q) → Q spent.place → ForPlaces P views
      → ForPlaces Q merged
  glued_places P Q more gone o =
      let mine = o id v at in
      glued_each (λ x. Each Q (x.place ∷ x.joined)) (
        more v.place mine.0,
        Each-more P Q more (v.joined ++ w.place ∷ w.joined)
            (Each-append P v.joined (w.place ∷ w.joined) mine.1 (o other w there)),
      ) (gone, tt)
      (λ j u e. Each-more P Q more (u.place ∷ u.joined) (o j u e))

  glued_offered : (is : Act → Bool) (c : ℕ) → weigh (λ q. times is c q.log) merged ≡ weigh (λ q. times is c q.log) views
  glued_offered is c = glued (λ q. times is c q.log) refl

  still : (is : Act → Bool) (c : ℕ) → 0 < weigh (λ q. times is c q.log) views → 0 < weigh (λ q. times is c q.log) merged
  still is c l = omega (arith, l, glued_offered is c)

  already : (is : Act → Bool) (c : ℕ) → 0 < weigh (λ q. times is c q.log) merged
      → 0 < weigh (λ q. times is c q.log) views
  already is c l = omega (arith, l, glued_offered is c)

  glued_had : (e x : ℕ) → weigh (had whose e x) merged ≡ weigh (had whose e x) views
  glued_had e x = glued (had whose e x)
      (let none = in_part_none e 0 in ap (λ (i : ℕ). i * (cond (eqb (slice_index whose.start e) x) 1 0 + 0) + 0) none
      ∙ omega arith)

  glued_widens : Widens whose (λ g. weigh g views) (λ g. weigh g merged)
  glued_widens = record {
    low = λ c. omega (arith, glued_offered is_raise c);
    high = λ c. omega (arith, glued_offered is_lower c);
    count = λ c. omega (arith, glued_offered is_ask c);
    value = λ e x l. omega (arith, l, glued_had e x);
  }

  glued_one_first : HaveOneFirst merged
  glued_one_first =
      let lives = sum-set (λ (u : View). is_live u.role) (set views id both) other w spent there_still in
      let lives_before = sum-set (λ (u : View). is_live u.role) views id v both at in
      let w_live : is_live w.role ≡ 1 = ap is_live second in
      let v_live : is_live v.role ≡ 1 = ap is_live first in
      let two = terms_le (λ (u : View). is_live u.role) views id other v w ne at there in
      record {
        one = omega (
          arith,
          k.one_first_seat.one,
          sum-set (λ (u : View). is_first u.role) (set views id both) other w
              spent there_still,
          sum-set (λ (u : View). is_first u.role) views id v both at,
          ap is_first second,
        );
        out = λ j u e is.
            ⊎_elim (λ (t : (j ≡ other) × (spent ≡ u)). let never : Spent ≡ First = ap (λ (x : View). x.role) t.1 ∙ is
            in absurd (cc))
            (λ (t : (j ≢ other) × (get_elem? (set views id both) j ≡ some u)).
            ⊎_elim (λ (r : (j ≡ id) × (both ≡ u)). omega (
              arith,
              lives,
              lives_before,
              w_live,
              v_live,
              two,
              k.one_first_seat.out id v at first,
              ap
                  (λ (x : View). x.out) r.1,
            ))
            (λ (r : (j ≢ id) × (get_elem? views j ≡ some u)). absurd
            (lone views k.one_first_seat id j v u r.0 at r.1 first is)) (at_set views id j both u t.1))
            (at_set (set views id both) other j spent u e);
      }

  pub join_keeps : BoardInvariant whose s merged
  join_keeps =
      let W : (Place → ℕ) → ℕ = λ g. weigh g views in
      let W' : (Place → ℕ) → ℕ = λ g. weigh g merged in
      let best = k.bounds_are_best in
      record {
        same_graph = glued_each (λ x. Belongs whose x.role x)
            (subst (λ (r : Role). Belongs whose r both) (sym first) refl) refl k.same_graph;
        bounds_enclose = k.bounds_enclose;
        bounds_are_best = record {
          low = greatest_as whose.initial.low (λ c. 0 < weigh (λ q. times is_raise c q.log) views)
              (λ c. 0 < weigh (λ q. times is_raise c q.log) merged) s.low (still is_raise) (already is_raise)
              best.low;
          high = least_as whose.initial.high (λ c. 0 < weigh (λ q. times is_lower c q.log) views)
              (λ c. 0 < weigh (λ q. times is_lower c q.log) merged) s.high (still is_lower) (already is_lower)
              best.high;
        };
        answers_are_behind = glued_places (IsBehind whose s) (IsBehind whose s) (λ q h. h)
            (record { bounds = record { low = best.low.from; high = best.high.from }; count = omega arith })
            k.answers_are_behind;
        logs_are_possible = glued_places (IsPossibleLog whose W) (IsPossibleLog whose W')
            (λ q h. possible_more whose W W' q glued_widens h) tt k.logs_are_possible;
        entries_have_owners = record {
          owner = λ e. glued (λ q. in_part e q.part) (omega (arith, in_part_none e 0)) ∙ k.entries_have_owners.owner e;
          last = glued_places (HoldsLast whose s) (HoldsLast whose s) (λ q h. h)
              (λ e i. absurd (omega (arith, i, in_part_none e 0))) k.entries_have_owners.last;
          vector = k.entries_have_owners.vector;
        };
        rescale_count = record {
          most = k.rescale_count.most;
          greatest = greatest_as 0 (λ c. 0 < weigh (λ q. times is_ask c q.log) views)
              (λ c. 0 < weigh (λ q. times is_ask c q.log) merged) s.shift (still is_ask) (already is_ask)
              k.rescale_count.greatest;
        };
        stop_means_equal = record {
          bit = k.stop_means_equal.bit;
          best = greatest_as 0 (λ c. 0 < weigh (λ q. times is_stop c q.log) views)
              (λ c. 0 < weigh (λ q. times is_stop c q.log) merged) s.stop (still is_stop) (already is_stop)
              k.stop_means_equal.best;
          found = λ l. k.stop_means_equal.found (omega (arith, l, glued (λ q. halts q.log) refl));
          equal = k.stop_means_equal.equal;
        };
        one_first_seat = glued_one_first;
      }
