-- The closing of a slot: the log of its one worker is a run to the bounds, and what was told lies around them. The
-- first seat, which loaded the bounds, stands beside the worker like a session, so all that was proved of runs with
-- sessions holds here.
use Rattle.std.proofs.Common.{◌≡◌, ℕ, zero, suc, ◌+◌, ◌-◌, ◌*◌, ◌/◌, ◌<◌, ◌⊎◌, inl, inr, Bool, true, false, cond}
use Rattle.std.proofs.Common.{eqb, slice_index, List, [], ◌∷◌, ◌++◌, length, All, refl, sym, ap, ◌∙◌, subst, append-nil}
use Rattle.std.proofs.Common.{arith}
use mathlib.Core.Option.{some, some-injective}
use lib.ListN.{get_elem?}
use Rattle.atomic_table.specs.declared.shared.Seat.{Seat}
use Rattle.ce_crew.specs.WorkerLogs.{IsTurns, IsHaltedAfter}
use Rattle.ce_crew.specs.Workers.{HasLog, log_of}
use Rattle.ce_crew.specs.declared.worker.Worker.{Worker}
use Rattle.ce_live.specs.Sessions.{SessionState}
use Rattle.ce_live.specs.declared.reading.Reading.{Reading}
use Rattle.ce_rows.specs.declared.interval.Interval.{Interval}
use Rattle.ce_solve.specs.Actors.{IsOver, IsTold, IsFirstSeat, HasTurns, places_of, joined_all}
use Rattle.ce_solve.specs.Actors.{readings_of}
use Rattle.ce_solve.specs.ChaoticRun.{part_of, IsRun, IsCertifiedLow, IsCertifiedHigh, HasKnownEnds}
use Rattle.ce_solve.specs.declared.crew.Actor.{Actor}
use Rattle.ce_solve.specs.declared.crew.Actor.TheVariants.{Worker as AWorker, Session as ASession}
use Rattle.ce_solve.proofs.Assembling.{all_cons}
use Rattle.ce_solve.proofs.Closing.{is_run, low_sum, high_sum}
use Rattle.ce_solve.proofs.ReadingEnds.{readings_end}
use Rattle.ce_solve.proofs.ReadingsAround.{readings_around}
use Rattle.ce_words.proofs.Logs.{Widens, possible_more, in_part_none}
use Rattle.ce_words.proofs.Seats.{greatest_as, least_as}
use Rattle.ce_words.proofs.Sums.{Each-more}
use Rattle.ce_words.specs.Logs.{is_raise, is_lower, is_ask, is_stop, times, halts, by_place, in_part, stores}
use Rattle.ce_words.specs.Logs.{had, Each}
use Rattle.ce_words.specs.Logs.{IsPossibleLog}
use Rattle.ce_words.specs.Seats.{board_run}
use Rattle.ce_words.specs.Steps.{IsSettled, WasSet, LiesInside}
use Rattle.ce_words.specs.Views.{view, viewed, place, part, both_of}
use Rattle.ce_words.specs.declared.board.Board.{Board}
use Rattle.ce_words.specs.declared.view.Part.{Part}
use Rattle.ce_words.specs.declared.view.Place.{Place}
use Rattle.ce_words.specs.declared.view.Role.TheVariants.{Other}
use Rattle.ce_words.specs.declared.view.Run.{Run}
use Rattle.ce_words.specs.declared.view.View.{View}
use Rattle.ce_desk.proofs.Reading.{readings_numbered, each_told}
use Rattle.ce_desk.specs.CasesInside.{readings_from, IsFirstOf, IsDoneFor}
use Rattle.ce_desk.specs.Desk.{Slot}
use Rattle.ce_desk.specs.DeskText.{Closes, HasTurns as HasTurnsMade}

-- An empty part owns no entry.
owns_none : (run : Run) (e x : ℕ) (p : Place) → p.part.from ≡ p.part.to → had run e x p ≡ 0
owns_none run e x p empty =
    let none : in_part e p.part ≡ 0 = ap (λ (t : ℕ). in_part e (part p.part.from t)) (sym empty)
    ∙ in_part_none e p.part.from in
    omega (arith, ap (λ (k : ℕ). k * ((cond (eqb (slice_index run.start e) x) 1 0) + stores e x p.log)) none)

module _ (b : Board) (slot : Slot) (first : Seat (Unit {0}) View) (w : Worker)
    (h : IsFirstOf b slot first) (d : IsDoneFor b slot w)
    (low high : ℕ) (s : IsSettled (both_of (view first) (view w.seat)) low high)
    (set : WasSet (both_of (view first) (view w.seat))) where
  abbrev run : Run
  run = (view first).run

  abbrev here : Place
  here = (view first).place

  abbrev there : Place
  there = (view w.seat).place

  -- the first seat as if it had loaded nothing
  abbrev bare : View
  bare = viewed run (view first).role (place here.part []) [] 2

  -- a session that read what was told
  abbrev reader : SessionState
  reader = record {
    seat = record first { me = (viewed run Other here [] 0, []) };
    session = 0;
    actor = 0;
    room = record { reads = 0; readings = readings_from 0 slot.told };
  }

  abbrev actors : List Actor
  actors = AWorker w ∷ ASession reader ∷ []

  over : All (IsOver b d.beginning) actors
  over = all_cons (IsOver b d.beginning) (AWorker w) (ASession reader ∷ []) d.over
      (all_cons (IsOver b d.beginning) (ASession reader) [] (record {
        sits = record { table = h.sits.table; slots = refl; run = h.sits.run; live = tt };
        role = refl;
        joined = refl;
        empty = h.empty;
      }) (λ k e l. absurd (omega arith)))

  told : Each IsTold actors
  told = (tt, (record { log = h.log; numbered = readings_numbered 0 slot.told; never_widen = h.never_widen }, tt))

  fresh : IsFirstSeat bare (length actors)
  fresh = record { role = h.role; log = refl; joined = refl; out = refl; empty = h.empty }

  -- all that the first seat knows
  abbrev known : View
  known = viewed run (view first).role here (there ∷ []) 0

  known_is : both_of (view first) (view w.seat) ≡ known
  known_is =
      ap (λ (ps : List Place). viewed run (view first).role here (ps ++ there ∷ (view w.seat).joined)
      ((view first).out - 1)) h.joined
      ∙ ap (λ (ps : List Place). viewed run (view first).role here (there ∷ ps) ((view first).out - 1)) d.over.joined
      ∙ ap (λ (n : ℕ). viewed run (view first).role here (there ∷ []) (n - 1)) h.out

  settled_known : IsSettled known low high
  settled_known = subst (λ (v : View). IsSettled v low high) known_is s

  abbrev joined : View
  joined = joined_all bare (places_of actors)

  -- The sums are the same, since the bare seat adds nothing.
  sum_same : (g : Place → ℕ) → g bare.place ≡ 0 → by_place g known ≡ by_place g joined
  sum_same g none = omega (arith, none)

  widens : Widens run (λ g. by_place g known) (λ g. by_place g joined)
  widens = record {
    low = λ c. omega (arith, sum_same (λ p. times is_raise c p.log) refl);
    high = λ c. omega (arith, sum_same (λ p. times is_lower c p.log) refl);
    count = λ c. omega (arith, sum_same (λ p. times is_ask c p.log) refl);
    value = λ e x many. omega (arith, many, sum_same (had run e x) (owns_none run e x bare.place h.empty));
  }

  possible : (p : Place) → IsPossibleLog run (λ g. by_place g known) p → IsPossibleLog run (λ g. by_place g joined) p
  possible p k = possible_more run (λ g. by_place g known) (λ g. by_place g joined) p widens k

  settled_apart : IsSettled joined low high
  settled_apart = let k = settled_known in record {
    greatest = greatest_as run.initial.low (λ c. 0 < by_place (λ p. times is_raise c p.log) known)
        (λ c. 0 < by_place (λ p. times is_raise c p.log) joined) low
        (λ c l. omega (arith, l, sum_same (λ p. times is_raise c p.log) refl))
        (λ c l. omega (arith, l, sum_same (λ p. times is_raise c p.log) refl)) k.greatest;
    least = least_as run.initial.high (λ c. 0 < by_place (λ p. times is_lower c p.log) known)
        (λ c. 0 < by_place (λ p. times is_lower c p.log) joined) high
        (λ c l. omega (arith, l, sum_same (λ p. times is_lower c p.log) refl))
        (λ c l. omega (arith, l, sum_same (λ p. times is_lower c p.log) refl)) k.least;
    order = k.order;
    halted = λ many. k.halted (omega (arith, many, sum_same (λ p. halts p.log) refl));
    low_seen = (k.greatest.from, (k.low_seen.1.0, (k.low_seen.0, tt)));
    high_seen = (k.least.from, (k.high_seen.1.0, (k.high_seen.0, tt)));
    logs = (tt, (possible there k.logs.1.0, (possible here k.logs.0, tt)));
  }

  set_apart : WasSet joined
  set_apart many =
      let set_known : WasSet known = subst WasSet known_is set in
      let was = set_known (omega (arith, many, sum_same (λ p. halts p.log) refl)) in
      omega (arith, was, sum_same (λ p. times is_stop 1 p.log) refl)

  whole_part : there.part ≡ part_of (length (board_run b).rows) 1 0
  whole_part =
      let n = length (board_run b).rows in
      let from : 0 ≡ 0 * n / 1 = omega arith in
      let to : n ≡ (0 + 1) * n / 1 = omega arith in
      sym d.over.worker.its_part ∙ d.whole ∙ (λ i. part (from i) (to i))

  parts : (k : ℕ) (p : Place) → get_elem? (there ∷ []) k ≡ some p → p.part ≡ part_of (length (board_run b).rows) 1 k
  parts zero p at = ap (λ (q : Place). q.part) (sym (some-injective there p at)) ∙ whole_part
  parts (suc k) p at = absurd (cc)

  all_turns : All (HasTurns slot.turns) actors
  all_turns = all_cons (HasTurns slot.turns) (AWorker w) (ASession reader ∷ []) d.turns
      (all_cons (HasTurns slot.turns) (ASession reader) [] tt (λ k e l. absurd (omega arith)))

  pub run_is : IsRun slot.run slot.turns (there ∷ []) low high
  run_is = subst (λ (r : Run). IsRun r slot.turns (there ∷ []) low high) (sym h.run)
      (is_run b d.beginning actors over told bare fresh h.sits.run low high settled_apart set_apart slot.turns
      all_turns parts)

  all_readings : readings_of actors ≡ readings_from 0 slot.told
  all_readings = append-nil (readings_from 0 slot.told)

  pub contain : Each (λ (t : Interval). LiesInside t.low t.high low high) slot.told
  contain = each_told (λ (t : Interval). LiesInside t.low t.high low high) 0 slot.told
      (subst (λ (rs : List Reading). Each (λ (r : Reading). LiesInside r.interval.low r.interval.high low high) rs)
      all_readings
      (readings_around run low high actors told settled_apart.low_seen.1 settled_apart.high_seen.1))

  pub ends : Each (λ (t : Interval). HasKnownEnds slot.run (there ∷ []) t.low t.high) slot.told
  ends = each_told (λ (t : Interval). HasKnownEnds slot.run (there ∷ []) t.low t.high) 0 slot.told
      (subst (λ (rs : List Reading).
      Each (λ (r : Reading). HasKnownEnds slot.run (there ∷ []) r.interval.low r.interval.high) rs) all_readings
      (subst (λ (x : Run). Each (λ (r : Reading). HasKnownEnds x (there ∷ []) r.interval.low r.interval.high)
      (readings_of actors)) (h.sits.run ∙ sym h.run)
      (Each-more (λ (r : Reading).
      ((r.interval.low ≡ run.initial.low) ⊎ IsCertifiedLow (there ∷ []) r.interval.low)
      × ((r.interval.high ≡ run.initial.high) ⊎ IsCertifiedHigh (there ∷ []) r.interval.high))
      (λ (r : Reading). HasKnownEnds run (there ∷ []) r.interval.low r.interval.high)
      (λ r k. record { low_end = k.0; high_end = k.1 }) (readings_of actors)
      (readings_end run (λ g. by_place g joined) (IsCertifiedLow (there ∷ []))
      (IsCertifiedHigh (there ∷ [])) actors
      (λ c k. let q =
      low_sum b d.beginning actors over told bare fresh h.sits.run low high settled_apart c in
      omega (arith, k, q))
      (λ c k. let q =
      high_sum b d.beginning actors over told bare fresh h.sits.run low high settled_apart c in
      omega (arith, k, q))
      told settled_apart.logs.1))))

  made_by : (x : Bool) → HasLog (board_run b) w.part x w.done w.made (log_of w)
      → HasTurnsMade (board_run b) there w.done
  made_by true log =
      inr (subst (λ (p : Part). IsHaltedAfter (board_run b) p w.done (log_of w)) d.over.worker.its_part log)
  made_by false log =
      inl (w.made, subst (λ (p : Part). IsTurns (board_run b) p w.done (log_of w) w.made) d.over.worker.its_part log)

  pub closes : Closes slot (record { interval = record { low = low; high = high }; turns = w.done })
  closes = record {
    place = there;
    is_run = run_is;
    made = subst (λ (r : Run). HasTurnsMade r there w.done) (sym h.run) (made_by w.halted d.over.worker.log);
    contain = contain;
    ends = ends;
  }
