-- Each step of a seat keeps each point of the invariant.
use Rattle.std.proofs.Common.{◌≡◌, ℕ, ◌≤◌, ◌≢◌, List, [], ◌∷◌, ◌++◌, length, slice_index, set, max, min, sym, refl}
use Rattle.std.proofs.Common.{ap, ◌∙◌, subst, ⊎_elim, arith}
use mathlib.Core.Logic.{dite}
use mathlib.Core.Option.{some}
use native.Mathlib.Decide.{ℕ_discrete}
use lib.ListN.{get_elem?}
use Rattle.atomic_table.proofs.Lists.{at_set}
use Rattle.ce_rows.proofs.Rates.{low_at_most_high_of_rows}
use Rattle.ce_rows.specs.Actors.{ActorState, after_answer, HasSeen}
use Rattle.ce_rows.specs.Events.{Shared, after_act, answer_of}
use Rattle.ce_rows.specs.Rows.{EnclosesRows, IsLowerBoundOf, IsUpperBoundOf}
use Rattle.ce_rows.specs.declared.act.Act.{Act}
use Rattle.ce_rows.specs.declared.act.Act.TheVariants.{Loads, LoadsLow, LoadsHigh, Raises, Lowers}
use Rattle.ce_rows.specs.declared.act.Act.TheVariants.{LoadsShift, Asks, LoadsStop, Stops}
use Rattle.ce_rows.specs.declared.act.LogEntry.{LogEntry}
use Rattle.ce_words.specs.Invariant.{ForPlaces, is_first, is_live, HaveOneFirst, CountsAsked, StopsEqual, Belongs}
use Rattle.ce_words.specs.Invariant.{HaveOneRun, AreBest, IsBehind, BoardInvariant}
use Rattle.ce_words.specs.Logs.{is_raise, is_lower, is_ask, is_stop, count_by, last_count, weigh, IsPossibleLog}
use Rattle.ce_words.specs.Steps.{MayStep}
use Rattle.ce_words.specs.Views.{rows_of, IsLive, logged, noted, kept}
use Rattle.ce_words.specs.declared.view.Run.{Run}
use Rattle.ce_words.specs.declared.view.Place.{Place}
use Rattle.ce_words.specs.declared.view.Role.{Role}
use Rattle.ce_words.specs.declared.view.Role.TheVariants.{First, Other, Spent}
use Rattle.ce_words.specs.declared.view.View.{View}
use Rattle.ce_words.proofs.Counts.{noted_places, times_more, up_fits, down_fits, greatest_same, greatest_more}
use Rattle.ce_words.proofs.Counts.{least_same, least_more, halts_more, values_kept}
use Rattle.ce_words.proofs.Held.{views_held}
use Rattle.ce_words.proofs.Logs.{kept-snoc, last_count-snoc, in_part_of, Fits, Widens, possible_more, possible_snoc}
use Rattle.ce_words.proofs.Owners.{owners}
use Rattle.ce_words.proofs.Sums.{sum-set}
use Rattle.ce_rows.proofs.General.{greater_of, lesser_of}

-- The bounds narrow and the count rises.
pub record Moves (s t : Shared) : Type 0 where
  pub low : s.low ≤ t.low
  pub high : t.high ≤ s.high
  pub count : s.shift ≤ t.shift

pub moves : (s : Shared) (act : Act) (c : ℕ) → Moves s (after_act s act c)
moves s Raises c = record { low = omega arith; high = omega arith; count = omega arith }
moves s Lowers c = record { low = omega arith; high = omega arith; count = omega arith }
moves s Asks c = record { low = omega arith; high = omega arith; count = omega arith }
moves s _ c = record { low = omega arith; high = omega arith; count = omega arith }

module _ (s : Shared) (views : List View) (id : ℕ) (v : View) (k : BoardInvariant v.run s views)
    (at : get_elem? views id ≡ some v) (live : IsLive v.role) where
  abbrev run : Run
  run = v.run

  -- the step's entry in the log, and the views after it
  abbrev step_of : Act → ℕ → LogEntry
  step_of act c = logged act c (answer_of s act c)

  abbrev views_after : Act → ℕ → List View
  views_after act c = set views id (noted v (step_of act c))

  abbrev own : ActorState
  own = kept run v.place.log

  behind : IsBehind run s v.place
  behind = (k.answers_are_behind id v at).0

  order : s.low ≤ s.high
  order = low_at_most_high_of_rows (rows_of run) s.low s.high k.bounds_enclose.below k.bounds_enclose.above

  same_graph : (act : Act) (c : ℕ) → HaveOneRun run (views_after act c)
  same_graph act c j u e =
      let belongs : (r : Role) → IsLive r → Belongs run r v
      → Belongs run r (noted v (step_of act c)) = λ r l h. belongs_still r l h in
      ⊎_elim (λ (t : (j ≡ id) × (noted v (step_of act c) ≡ u)). subst (λ (x : View). Belongs run x.role x) t.1
      (belongs v.role live (k.same_graph id v at)))
      (λ (t : (j ≢ id) × (get_elem? views j ≡ some u)). k.same_graph j u t.1)
      (at_set views id j (noted v (step_of act c)) u e)
    where
      belongs_still : (r : Role) → IsLive r → Belongs run r v → Belongs run r (noted v (step_of act c))
      belongs_still First l h = h
      belongs_still Other l h = h
      belongs_still Spent l h = absurd l

  encloses : (act : Act) (c : ℕ) → MayStep v act c
      → EnclosesRows (rows_of run) (after_act s act c).low (after_act s act c).high
  encloses Raises c may = record {
    below = greater_of (IsLowerBoundOf (rows_of run)) s.low c k.bounds_enclose.below may;
    above = k.bounds_enclose.above;
  }
  encloses Lowers c may = record {
    below = k.bounds_enclose.below;
    above = lesser_of (IsUpperBoundOf (rows_of run)) s.high c k.bounds_enclose.above may;
  }
  encloses _ c may = k.bounds_enclose

  best : (act : Act) (c : ℕ) → AreBest run (after_act s act c) (views_after act c)
  best Raises c = record {
    low = greatest_more views id v (step_of Raises c) at is_raise c (λ d. refl) run.initial.low s.low
        k.bounds_are_best.low;
    high = least_same views id v (step_of Raises c) at is_lower run.initial.high s.high (λ d. refl)
        k.bounds_are_best.high;
  }
  best Lowers c = record {
    low = greatest_same views id v (step_of Lowers c) at is_raise run.initial.low s.low (λ d. refl)
        k.bounds_are_best.low;
    high = least_more views id v (step_of Lowers c) at is_lower c (λ d. refl) run.initial.high s.high
        k.bounds_are_best.high;
  }
  best act c = record {
    low = greatest_same views id v (step_of act c) at is_raise run.initial.low s.low (λ d. refl) k.bounds_are_best.low;
    high = least_same views id v (step_of act c) at is_lower run.initial.high s.high (λ d. refl) k.bounds_are_best.high;
  }

  counts : (act : Act) (c : ℕ) → MayStep v act c → CountsAsked (after_act s act c) (views_after act c)
  counts Asks c may = record {
    most = let m = k.rescale_count.most in omega (arith, may, m);
    greatest = greatest_more views id v (step_of Asks c) at is_ask c (λ d. refl) 0 s.shift k.rescale_count.greatest;
  }
  counts act c may = record {
    most = k.rescale_count.most;
    greatest = greatest_same views id v (step_of act c) at is_ask 0 s.shift (λ d. refl) k.rescale_count.greatest;
  }

  -- what the log has seen after its step
  low_seen : (act : Act) (c : ℕ) → (after_answer own act (answer_of s act c)).low ≤ (after_act s act c).low
  low_seen Raises c = omega arith
  low_seen LoadsLow c = omega arith
  low_seen _ c = behind.bounds.low

  high_seen : (act : Act) (c : ℕ) → (after_act s act c).high ≤ (after_answer own act (answer_of s act c)).high
  high_seen Lowers c = omega arith
  high_seen LoadsHigh c = omega arith
  high_seen _ c = behind.bounds.high

  count_seen : (act : Act) (c : ℕ)
      → count_by act (answer_of s act c) (last_count 0 v.place.log) ≤ (after_act s act c).shift
  count_seen Asks c = omega arith
  count_seen LoadsShift c = omega arith
  count_seen _ c = behind.count

  own_behind : (act : Act) (c : ℕ) → IsBehind run (after_act s act c) (noted v (step_of act c)).place
  own_behind act c =
      let grown = kept-snoc run v.place.log (step_of act c) in
      record {
        bounds = subst (HasSeen (after_act s act c)) (sym grown)
            (record { low = low_seen act c; high = high_seen act c });
        count = subst (λ (x : ℕ). x ≤ (after_act s act c).shift)
            (sym (last_count-snoc 0 v.place.log (step_of act c))) (count_seen act c);
      }

  all_behind : (act : Act) (c : ℕ) → ForPlaces (IsBehind run (after_act s act c)) (views_after act c)
  all_behind act c =
      let m = moves s act c in
      noted_places views id v (step_of act c) at (IsBehind run s) (IsBehind run (after_act s act c))
      (λ p h. record {
        bounds = record { low = omega (arith, h.bounds.low, m.low); high = omega (arith, h.bounds.high, m.high) };
        count = omega (arith, h.count, m.count);
      })
      (own_behind act c) k.answers_are_behind

  -- the answer of the step fits its log
  own_fits : (act : Act) (c : ℕ) → MayStep v act c
      → Fits run (λ g. weigh g (views_after act c)) (v.place.log ++ step_of act c ∷ []) v.place.part v.place.log
      (step_of act c)
  own_fits LoadsLow c may = up_fits views id v (step_of LoadsLow c) at is_raise run.initial.low own.low s.low
      behind.bounds.low (best LoadsLow c).low
  own_fits Raises c may = up_fits views id v (step_of Raises c) at is_raise run.initial.low own.low (max s.low c)
      (omega (arith, behind.bounds.low)) (best Raises c).low
  own_fits LoadsHigh c may = down_fits views id v (step_of LoadsHigh c) at is_lower run.initial.high own.high s.high
      behind.bounds.high (best LoadsHigh c).high
  own_fits Lowers c may = down_fits views id v (step_of Lowers c) at is_lower run.initial.high own.high
      (min s.high c) (omega (arith, behind.bounds.high)) (best Lowers c).high
  own_fits LoadsShift c may = up_fits views id v (step_of LoadsShift c) at is_ask 0 (last_count 0 v.place.log)
      s.shift behind.count (counts LoadsShift c may).greatest
  own_fits Asks c may = up_fits views id v (step_of Asks c) at is_ask 0 (last_count 0 v.place.log) (max s.shift c)
      (omega (arith, behind.count)) (counts Asks c may).greatest
  own_fits (Loads e) c may = (
    values_kept views id v (step_of (Loads e) c) at run e (slice_index s.entries e)
        (views_held run s e views k.entries_have_owners.last
        (omega (arith, k.entries_have_owners.owner e, in_part_of e (length run.rows) may))),
    λ i. (k.entries_have_owners.last id v at).0 e i,
  )
  own_fits _ c may = tt

  all_possible : (act : Act) (c : ℕ) → MayStep v act c
      → ForPlaces (IsPossibleLog run (λ g. weigh g (views_after act c))) (views_after act c)
  all_possible act c may =
      let n : LogEntry = step_of act c in
      let W : (Place → ℕ) → ℕ = λ g. weigh g views in
      let W' : (Place → ℕ) → ℕ = λ g. weigh g (views_after act c) in
      let lows = times_more views id v n at is_raise in
      let highs = times_more views id v n at is_lower in
      let asks = times_more views id v n at is_ask in
      let widens : Widens run W W' = record {
        low = λ d. omega (arith, lows d);
        high = λ d. omega (arith, highs d);
        count = λ d. omega (arith, asks d);
        value = values_kept views id v n at run;
      } in
      noted_places views id v n at (IsPossibleLog run W) (IsPossibleLog run W')
      (λ p h. possible_more run W W' p widens h)
      (possible_snoc run W W' v.place.log v.place.part n lows highs asks (values_kept views id v n at run)
      (k.logs_are_possible id v at).0 (own_fits act c may)) k.logs_are_possible

  -- equal bounds stay equal, since they only narrow and a lower bound is at most an upper bound
  equal_still : (act : Act) (c : ℕ) → MayStep v act c → s.low ≡ s.high
      → (after_act s act c).low ≡ (after_act s act c).high
  equal_still act c may same =
      let m = moves s act c in
      let e = encloses act c may in
      let new_order = low_at_most_high_of_rows (rows_of run) (after_act s act c).low (after_act s act c).high e.below
      e.above in
      omega (arith, same, m.low, m.high, new_order)

  stops : (act : Act) (c : ℕ) → MayStep v act c → StopsEqual (after_act s act c) (views_after act c)
  stops Stops c may =
      let o = k.stop_means_equal in
      record {
        bit = let b = o.bit in omega (arith, may.0, b);
        best = greatest_more views id v (step_of Stops c) at is_stop c (λ d. refl) 0 s.stop o.best;
        found = λ l. let b = o.bit in omega (arith, may.0, b);
        equal = λ _. omega (arith, may.1, behind.bounds.low, behind.bounds.high, order);
      }
  stops LoadsStop c may =
      let o = k.stop_means_equal in
      record {
        bit = o.bit;
        best = greatest_same views id v (step_of LoadsStop c) at is_stop 0 s.stop (λ d. refl) o.best;
        found = λ l.
            dite (ℕ_discrete s.stop 0)
            (λ none. o.found (omega (arith, l, none, halts_more views id v (step_of LoadsStop c) at)))
            (λ some_stop. let b = o.bit in omega (arith, b, some_stop));
        equal = o.equal;
      }
  stops act c may =
      let o = k.stop_means_equal in
      record {
        bit = o.bit;
        best = greatest_same views id v (step_of act c) at is_stop 0 s.stop (λ d. refl) o.best;
        found = λ l. o.found (omega (arith, l, halts_more views id v (step_of act c) at));
        equal = λ one. equal_still act c may (o.equal one);
      }

  one_first : (act : Act) (c : ℕ) → HaveOneFirst (views_after act c)
  one_first act c =
      let w : View = noted v (step_of act c) in
      let firsts = sum-set (λ (u : View). is_first u.role) views id v w at in
      let lives = sum-set (λ (u : View). is_live u.role) views id v w at in
      record {
        one = omega (arith, firsts, k.one_first_seat.one);
        out = λ j u e first.
            ⊎_elim (λ (t : (j ≡ id) × (w ≡ u)). omega (
              arith,
              lives,
              k.one_first_seat.out id v at (ap (λ (x : View). x.role) t.1 ∙ first),
              ap
                  (λ (x : View). x.out) t.1,
            ))
            (λ (t : (j ≢ id) × (get_elem? views j ≡ some u)). omega
            (arith, lives, k.one_first_seat.out j u t.1 first)) (at_set views id j w u e);
      }

  pub step_keeps : (act : Act) (c : ℕ) → MayStep v act c → BoardInvariant run (after_act s act c) (views_after act c)
  step_keeps act c may = record {
    same_graph = same_graph act c;
    bounds_enclose = encloses act c may;
    bounds_are_best = best act c;
    answers_are_behind = all_behind act c;
    logs_are_possible = all_possible act c may;
    entries_have_owners = owners s views id v k.entries_have_owners at act c may;
    rescale_count = counts act c may;
    stop_means_equal = stops act c may;
    one_first_seat = one_first act c;
  }
