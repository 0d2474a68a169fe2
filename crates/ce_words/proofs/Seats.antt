-- The first seat keeps the invariant when it splits off a part of its own.
use Rattle.std.proofs.Common.{◌≡◌, ℕ, ◌+◌, ◌*◌, ◌<◌, ◌≤◌, ◌≢◌, Bool, true, false, nat_lt, lt-ltb, le-ltb, cond, eqb}
use Rattle.std.proofs.Common.{List, [], ◌∷◌, ◌++◌, slice_index, set, sym, refl, ap, ◌∙◌, subst, inl, inr, ⊎_elim, arith}
use mathlib.Core.Option.{some}
use lib.ListN.{get_elem?}
use Rattle.atomic_table.proofs.Lists.{at_set, at_snoc}
use Rattle.ce_rows.specs.Events.{Shared}
use Rattle.ce_rows.specs.declared.act.Act.{Act}
use Rattle.ce_words.specs.Invariant.{ForPlaces, IsGreatest, IsLeast, is_first, is_live, HaveOneFirst, Belongs, IsBehind}
use Rattle.ce_words.specs.Invariant.{HoldsLast, BoardInvariant}
use Rattle.ce_words.specs.Logs.{total, is_raise, is_lower, is_ask, is_stop, times, halts, stores, in_part, by_place}
use Rattle.ce_words.specs.Logs.{weigh, Each, had, IsPossibleLog}
use Rattle.ce_words.specs.Views.{part, cut_left, cut_right, CanCut}
use Rattle.ce_words.specs.declared.view.Run.{Run}
use Rattle.ce_words.specs.declared.view.Part.{Part}
use Rattle.ce_words.specs.declared.view.Place.{Place}
use Rattle.ce_words.specs.declared.view.Role.{Role}
use Rattle.ce_words.specs.declared.view.Role.TheVariants.{First, Other}
use Rattle.ce_words.specs.declared.view.View.{View}
use Rattle.ce_words.proofs.Logs.{in_part_cut, in_part_none, in_part_le, Widens, possible_in, possible_more}
use Rattle.ce_words.proofs.Sums.{sum-append, sum-set, term_le, terms_le, Each-more}

-- where the same numbers are offered, the best is the same
pub greatest_as : (start : ℕ) (p q : ℕ → Type 0) (a : ℕ) → ((c : ℕ) → p c → q c) → ((c : ℕ) → q c → p c)
    → IsGreatest start p a → IsGreatest start q a
greatest_as start p q a f g b = record
    { from = b.from; all = λ c l. b.all c (g c l); source = ⊎_elim (λ e. inl e) (λ (l : p a). inr (f a l)) b.source }

pub least_as : (start : ℕ) (p q : ℕ → Type 0) (a : ℕ) → ((c : ℕ) → p c → q c) → ((c : ℕ) → q c → p c)
    → IsLeast start p a → IsLeast start q a
least_as start p q a f g b = record
    { from = b.from; all = λ c l. b.all c (g c l); source = ⊎_elim (λ e. inl e) (λ (l : p a). inr (f a l)) b.source }

-- two seats are not both the first one
pub lone : (views : List View) → HaveOneFirst views → (i j : ℕ) (v u : View) → j ≢ i → get_elem? views i ≡ some v
    → get_elem? views j ≡ some u → v.role ≡ First → u.role ≡ First → ⊥
lone views c i j v u ne at e f g = omega
    (arith, c.one, terms_le (λ (x : View). is_first x.role) views i j v u ne at e, ap is_first f, ap is_first g)

-- the first seat's view v is cut
module _ (s : Shared) (views : List View) (id : ℕ) (v : View) (p : Part) (k : BoardInvariant v.run s views)
    (at : get_elem? views id ≡ some v) (first : v.role ≡ First) (can : CanCut v p) where
  abbrev run : Run
  run = v.run

  abbrev left : View
  left = cut_left v p

  abbrev right : View
  right = cut_right v p

  abbrev halves : List View
  halves = set views id left ++ right ∷ []

  cut_sum : (g : Place → ℕ) → weigh g halves + g v.place ≡ weigh g views + g left.place + g right.place
  cut_sum g = omega (
    arith,
    sum-append (by_place g) (set views id left) (right ∷ []),
    sum-set (by_place g) views id v
        left at,
  )

  cut_each : (P : View → Type 0) → P left → P right → ((j : ℕ) (u : View) → get_elem? views j ≡ some u → P u)
      → (j : ℕ) (u : View) → get_elem? halves j ≡ some u → P u
  cut_each P one two rest j u e =
      ⊎_elim (λ was. ⊎_elim (λ (t : (j ≡ id) × (left ≡ u)). subst P t.1 one)
      (λ (t : (j ≢ id) × (get_elem? views j ≡ some u)). rest j u t.1) (at_set views id j left u was))
      (λ (same : right ≡ u). subst P same two) (at_snoc (set views id left) right u j e)

  cut_places : (P Q : Place → Type 0) → ((q : Place) → P q → Q q) → Q left.place → Q right.place → ForPlaces P views
      → ForPlaces Q halves
  cut_places P Q more one two o =
      cut_each (λ x. Each Q (x.place ∷ x.joined)) (one, Each-more P Q more v.joined (o id v at).1) (two, tt)
      (λ j u e. Each-more P Q more (u.place ∷ u.joined) (o j u e))

  -- each entry of v is in one of the two
  pub cut_part : (e : ℕ) → in_part e left.place.part + in_part e p ≡ in_part e v.place.part
  cut_part e =
      let L : ℕ → ℕ = λ t. in_part e (part v.place.part.from t) in
      ⊎_elim (λ (none_cut : p.from ≡ p.to).
      let off : nat_lt p.from p.to ≡ false = le-ltb p.from p.to (omega (arith, none_cut)) in
      let same : in_part e left.place.part ≡ in_part e v.place.part = ap
      (λ (b : Bool). L (cond b p.from v.place.part.to)) off in
      let zero_part : in_part e p ≡ 0 = ap (λ (t : ℕ). in_part e (part p.from t)) (sym none_cut) ∙ in_part_none e
      p.from in
      omega (arith, same, zero_part))
      (λ (h : (v.place.part.from ≤ p.from) × (p.from < p.to) × (p.to ≡ v.place.part.to)).
      let on : nat_lt p.from p.to ≡ true = lt-ltb p.from p.to h.1 in
      let same : in_part e left.place.part ≡ L p.from = ap (λ (b : Bool). L (cond b p.from v.place.part.to)) on in
      let sum = in_part_cut e v.place.part.from p.from p.to h.0 (omega (arith, h.1)) in
      let end : L p.to ≡ in_part e v.place.part = ap L h.2 in
      omega (arith, same, sum, end))
      can

  cut_had : (e x : ℕ) → weigh (had run e x) halves ≡ weigh (had run e x) views
  cut_had e x =
      let X : ℕ = cond (eqb (slice_index run.start e) x) 1 0 + stores e x v.place.log in
      let parts : (in_part e left.place.part + in_part e p) * X ≡ in_part e v.place.part * X = ap (λ (k : ℕ). k * X)
      (cut_part e) in
      omega (arith, parts, cut_sum (had run e x))

  cut_offered : (is : Act → Bool) (c : ℕ)
      → weigh (λ q. times is c q.log) halves ≡ weigh (λ q. times is c q.log) views + times is c v.place.log
  cut_offered is c = omega (arith, cut_sum (λ (q : Place). times is c q.log))

  offered_then : (is : Act → Bool) (c : ℕ) → 0 < weigh (λ q. times is c q.log) views
      → 0 < weigh (λ q. times is c q.log) halves
  offered_then is c l = omega (arith, l, cut_offered is c)

  offered_before : (is : Act → Bool) (c : ℕ) → 0 < weigh (λ q. times is c q.log) halves
      → 0 < weigh (λ q. times is c q.log) views
  offered_before is c l = omega (
    arith,
    l,
    cut_offered is c,
    term_le (by_place (λ (q : Place). times is c q.log))
        views id v at,
  )

  cut_widens : Widens run (λ g. weigh g views) (λ g. weigh g halves)
  cut_widens = record {
    low = λ c. omega (arith, cut_offered is_raise c);
    high = λ c. omega (arith, cut_offered is_lower c);
    count = λ c. omega (arith, cut_offered is_ask c);
    value = λ e x l. omega (arith, l, cut_had e x);
  }

  in_left : (e : ℕ) → in_part e left.place.part ≡ 1 → in_part e v.place.part ≡ 1
  in_left e i = omega (arith, i, cut_part e, in_part_le e v.place.part)

  in_right : (e : ℕ) → in_part e p ≡ 1 → in_part e v.place.part ≡ 1
  in_right e i = omega (arith, i, cut_part e, in_part_le e v.place.part)

  cut_one_first : HaveOneFirst halves
  cut_one_first =
      let firsts : List View → ℕ = λ vs. total (λ (u : View). is_first u.role) vs in
      let lives : total (λ (u : View). is_live u.role) halves ≡ total (λ (u : View). is_live u.role) views + 1 =
      omega (
        arith,
        sum-append (λ (u : View). is_live u.role) (set views id left) (right ∷ []),
        sum-set
            (λ (u : View). is_live u.role) views id v left at,
      ) in
      record {
        one = omega (
          arith,
          k.one_first_seat.one,
          sum-append (λ (u : View). is_first u.role) (set views id left)
              (right ∷ []),
          sum-set (λ (u : View). is_first u.role) views id v left at,
        );
        out = λ j u e is.
            ⊎_elim (λ was.
            ⊎_elim (λ (t : (j ≡ id) × (left ≡ u)). omega
            (arith, lives, k.one_first_seat.out id v at first, ap (λ (x : View). x.out) t.1))
            (λ (t : (j ≢ id) × (get_elem? views j ≡ some u)). absurd
            (lone views k.one_first_seat id j v u t.0 at t.1 first is)) (at_set views id j left u was))
            (λ (same : right ≡ u). let other : Other ≡ First = ap (λ (x : View). x.role) same ∙ is in absurd (cc))
            (at_snoc (set views id left) right u j e);
      }

  pub split_keeps : BoardInvariant run s halves
  split_keeps =
      let behind = (k.answers_are_behind id v at).0 in
      let possible = (k.logs_are_possible id v at).0 in
      let holds = (k.entries_have_owners.last id v at).0 in
      let W : (Place → ℕ) → ℕ = λ g. weigh g views in
      let W' : (Place → ℕ) → ℕ = λ g. weigh g halves in
      record {
        same_graph = cut_each (λ x. Belongs run x.role x) (subst (λ (r : Role). Belongs run r left) (sym first) refl)
            refl k.same_graph;
        bounds_enclose = k.bounds_enclose;
        bounds_are_best = record {
          low = greatest_as run.initial.low (λ c. 0 < weigh (λ q. times is_raise c q.log) views)
              (λ c. 0 < weigh (λ q. times is_raise c q.log) halves) s.low (offered_then is_raise)
              (offered_before is_raise) k.bounds_are_best.low;
          high = least_as run.initial.high (λ c. 0 < weigh (λ q. times is_lower c q.log) views)
              (λ c. 0 < weigh (λ q. times is_lower c q.log) halves) s.high (offered_then is_lower)
              (offered_before is_lower) k.bounds_are_best.high;
        };
        answers_are_behind = cut_places (IsBehind run s) (IsBehind run s) (λ q h. h)
            (record { bounds = behind.bounds; count = behind.count })
            (record { bounds = behind.bounds; count = behind.count }) k.answers_are_behind;
        logs_are_possible = cut_places (IsPossibleLog run W) (IsPossibleLog run W')
            (λ q h. possible_more run W W' q cut_widens h)
            (possible_in run W W' v.place.log v.place.part left.place.part cut_widens in_left possible)
            (possible_in run W W' v.place.log v.place.part p cut_widens in_right possible) k.logs_are_possible;
        entries_have_owners = record {
          owner = λ e. omega (
            arith,
            k.entries_have_owners.owner e,
            cut_part e,
            cut_sum
                (λ (q : Place). in_part e q.part),
          );
          last = cut_places (HoldsLast run s) (HoldsLast run s) (λ q h. h) (λ e i. holds e (in_left e i))
              (λ e i. holds e (in_right e i)) k.entries_have_owners.last;
          vector = k.entries_have_owners.vector;
        };
        rescale_count = record {
          most = k.rescale_count.most;
          greatest = greatest_as 0 (λ c. 0 < weigh (λ q. times is_ask c q.log) views)
              (λ c. 0 < weigh (λ q. times is_ask c q.log) halves) s.shift (offered_then is_ask)
              (offered_before is_ask) k.rescale_count.greatest;
        };
        stop_means_equal = record {
          bit = k.stop_means_equal.bit;
          best = greatest_as 0 (λ c. 0 < weigh (λ q. times is_stop c q.log) views)
              (λ c. 0 < weigh (λ q. times is_stop c q.log) halves) s.stop (offered_then is_stop)
              (offered_before is_stop) k.stop_means_equal.best;
          found = λ l. k.stop_means_equal.found
              (omega (
                arith,
                l,
                cut_sum (λ (q : Place). halts q.log),
                term_le (by_place (λ (q : Place). halts q.log)) views id v at,
              ));
          equal = k.stop_means_equal.equal;
        };
        one_first_seat = cut_one_first;
      }
