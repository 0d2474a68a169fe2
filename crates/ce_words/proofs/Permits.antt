-- What a view says of the shared state is true of it, by the invariant.
use Rattle.std.proofs.Common.{◌≡◌, ℕ, ◌+◌, ◌*◌, ◌<◌, ◌≤◌, ◌≢◌, Bool, cond, eqb, List, ◌∷◌, slice_index, refl, ap, ◌∙◌}
use Rattle.std.proofs.Common.{subst, ⊎_elim, arith}
use mathlib.Core.Option.{some}
use lib.ListN.{get_elem?}
use Rattle.ce_rows.proofs.Rates.{low_at_most_high_of_rows}
use Rattle.ce_rows.specs.Events.{Shared}
use Rattle.ce_rows.specs.declared.act.Act.{Act}
use Rattle.ce_words.specs.Invariant.{is_live, Belongs, IsBehind, BoardInvariant}
use Rattle.ce_words.specs.Logs.{is_raise, is_lower, is_ask, is_stop, times, halts, by_place, weigh, had, IsPossibleLog}
use Rattle.ce_words.specs.Steps.{IsWhole, IsSettled, WasSet, Permits}
use Rattle.ce_words.specs.Views.{rows_of, kept, spent}
use Rattle.ce_words.specs.declared.view.Place.{Place}
use Rattle.ce_words.specs.declared.view.Role.{Role}
use Rattle.ce_words.specs.declared.view.Role.TheVariants.{First, Other, Spent}
use Rattle.ce_words.specs.declared.view.View.{View}
use Rattle.ce_words.proofs.Logs.{in_part_none, Widens, possible_more}
use Rattle.ce_words.proofs.Seats.{greatest_as, least_as}
use Rattle.ce_words.proofs.Sums.{term_le, terms_le, sum-only, Each-more}

spent_role : (r : Role) → is_live r ≡ 0 → r ≡ Spent
spent_role First e = absurd (omega (arith, e))
spent_role Other e = absurd (omega (arith, e))
spent_role Spent e = refl

module _ (s : Shared) (views : List View) (id : ℕ) (v : View) (k : BoardInvariant v.run s views)
    (at : get_elem? views id ≡ some v) where
  module _ (whole : IsWhole v) where
    others : (i : ℕ) (u : View) → i ≢ id → get_elem? views i ≡ some u → u ≡ spent
    others i u ne e =
        let none_live : is_live u.role ≡ 0 = omega (
          arith,
          terms_le (λ (x : View). is_live x.role) views id i v u ne at e,
          k.one_first_seat.out id v at
              whole.first,
          whole.out,
          ap is_live whole.first,
        ) in
        subst (λ (r : Role). Belongs v.run r u) (spent_role u.role none_live) (k.same_graph i u e)

    -- all is in the one view
    whole_sum : (g : Place → ℕ) → by_place g spent ≡ 0 → weigh g views ≡ by_place g v
    whole_sum g none = sum-only (by_place g) views id v at (λ i u ne e. ap (by_place g) (others i u ne e) ∙ none)

    offered : (is : Act → Bool) (c : ℕ) → weigh (λ p. times is c p.log) views ≡ by_place (λ p. times is c p.log) v
    offered is c = whole_sum (λ p. times is c p.log) refl

    whole_had : (e x : ℕ) → weigh (had v.run e x) views ≡ by_place (had v.run e x) v
    whole_had e x = whole_sum (had v.run e x)
        (let none = in_part_none e 0 in ap (λ (i : ℕ). i * (cond (eqb (slice_index v.run.start e) x) 1 0 + 0) + 0)
        none ∙ omega arith)

    whole_widens : Widens v.run (λ g. weigh g views) (λ g. by_place g v)
    whole_widens = record {
      low = λ c. omega (arith, offered is_raise c);
      high = λ c. omega (arith, offered is_lower c);
      count = λ c. omega (arith, offered is_ask c);
      value = λ e x l. omega (arith, l, whole_had e x);
    }

    pub is_settled : IsSettled v s.low s.high
    is_settled = record {
      greatest = greatest_as v.run.initial.low (λ c. 0 < weigh (λ p. times is_raise c p.log) views)
          (λ c. 0 < by_place (λ p. times is_raise c p.log) v) s.low (λ c l. omega (arith, l, offered is_raise c))
          (λ c l. omega (arith, l, offered is_raise c)) k.bounds_are_best.low;
      least = least_as v.run.initial.high (λ c. 0 < weigh (λ p. times is_lower c p.log) views)
          (λ c. 0 < by_place (λ p. times is_lower c p.log) v) s.high (λ c l. omega (arith, l, offered is_lower c))
          (λ c l. omega (arith, l, offered is_lower c)) k.bounds_are_best.high;
      order = low_at_most_high_of_rows (rows_of v.run) s.low s.high k.bounds_enclose.below k.bounds_enclose.above;
      halted = λ l. k.stop_means_equal.equal
          (k.stop_means_equal.found (omega (arith, l, whole_sum (λ p. halts p.log) refl)));
      low_seen = Each-more (IsBehind v.run s) (λ p. (kept v.run p.log).low ≤ s.low) (λ p h. h.bounds.low)
          (v.place ∷ v.joined) (k.answers_are_behind id v at);
      high_seen = Each-more (IsBehind v.run s) (λ p. s.high ≤ (kept v.run p.log).high) (λ p h. h.bounds.high)
          (v.place ∷ v.joined) (k.answers_are_behind id v at);
      logs = Each-more (IsPossibleLog v.run (λ g. weigh g views)) (IsPossibleLog v.run (λ g. by_place g v))
          (λ p h. possible_more v.run (λ g. weigh g views) (λ g. by_place g v) p whole_widens h) (v.place ∷ v.joined)
          (k.logs_are_possible id v at);
    }

    -- What a log found set is 1, the greatest of 0 and of what logs set.
    pub were_set : WasSet v
    were_set l =
        let one : s.stop ≡ 1 = k.stop_means_equal.found (omega (arith, l, whole_sum (λ p. halts p.log) refl)) in
        ⊎_elim (λ (none : s.stop ≡ 0). absurd (omega (arith, one, none)))
        (λ (some_set : 0 < weigh (λ p. times is_stop s.stop p.log) views).
        let set_one : 0 < weigh (λ p. times is_stop 1 p.log) views = subst
        (λ (c : ℕ). 0 < weigh (λ p. times is_stop c p.log) views) one some_set in
        omega (arith, set_one, offered is_stop 1)) k.stop_means_equal.best.source

  pub permits : Permits v s
  permits =
      let mine : (is : Act → Bool) (c : ℕ)
      → by_place (λ p. times is c p.log) v ≤ weigh (λ p. times is c p.log) views = λ is c. term_le
      (by_place (λ (p : Place). times is c p.log)) views id v at in
      record {
        encloses = k.bounds_enclose;
        from = k.bounds_are_best.low.from;
        to = k.bounds_are_best.high.from;
        seen = k.answers_are_behind id v at;
        raised = λ c l. k.bounds_are_best.low.all c (omega (arith, l, mine is_raise c));
        lowered = λ c l. k.bounds_are_best.high.all c (omega (arith, l, mine is_lower c));
        asked = λ c l. k.rescale_count.greatest.all c (omega (arith, l, mine is_ask c));
        few = k.rescale_count.most;
        vector = k.entries_have_owners.vector;
        owned = k.entries_have_owners.last id v at;
        bit = k.stop_means_equal.bit;
        set = λ l.
            let least = k.stop_means_equal.best.all 1 (omega (arith, l, mine is_stop 1)) in
            let most = k.stop_means_equal.bit in
            omega (arith, least, most);
        equal = k.stop_means_equal.equal;
        told = λ l. k.stop_means_equal.equal
            (k.stop_means_equal.found
            (omega (arith, l, term_le (by_place (λ (p : Place). halts p.log)) views id v at)));
        settled = is_settled;
        were_set = were_set;
      }
