-- The closing of a run: the logs in the joined seats are a run to the bounds.
use Rattle.std.proofs.Common.{◌≡◌, ℕ, ◌+◌, ◌*◌, ◌<◌, ◌≤◌, inl, inr, Bool, true, false, cond, eqb, List, [], ◌∷◌, ◌++◌}
use Rattle.std.proofs.Common.{length, slice_index, All, refl, sym, ap, ◌∙◌, subst, arith}
use Rattle.std.proofs.lemmas.Bool.{false≢true}
use mathlib.Core.Option.{some}
use lib.ListN.{get_elem?}
use Rattle.ce_rows.specs.Actors.{ActorState, actor_after}
use Rattle.ce_rows.specs.declared.act.Act.{Act}
use Rattle.ce_rows.specs.declared.act.LogEntry.{LogEntry}
use Rattle.ce_rows.specs.declared.act.Act.TheVariants.{LoadsLow, LoadsHigh, LoadsStop, Stops}
use Rattle.ce_words.specs.Invariant.{IsGreatest, IsLeast}
use Rattle.ce_words.specs.Logs.{is_raise, is_lower, is_ask, is_stop, times, halts, halt, total, by_place, Each}
use Rattle.ce_words.specs.Logs.{in_part, stores, had, IsPossibleLog}
use Rattle.ce_words.specs.Steps.{IsSettled, WasSet}
use Rattle.ce_words.specs.Views.{view, kept, logged, part}
use Rattle.ce_words.specs.declared.view.Part.{Part}
use Rattle.ce_words.specs.declared.view.Place.{Place}
use Rattle.ce_words.specs.declared.view.Run.{Run}
use Rattle.ce_words.specs.declared.view.View.{View}
use Rattle.ce_words.specs.declared.board.Board.{Board}
use Rattle.ce_words.specs.Seats.{board_run}
use Rattle.ce_words.proofs.Logs.{halts-snoc, Widens, possible_more, in_part_none}
use Rattle.ce_words.proofs.Seats.{greatest_as, least_as}
use Rattle.ce_words.proofs.Sums.{Each-more}
use Rattle.ce_live.specs.Sessions.{read_log, steps_of}
use Rattle.ce_live.specs.declared.reading.Reading.{Reading}
use Rattle.ce_crew.specs.Turn.{IsHalt}
use Rattle.ce_crew.specs.WorkerLogs.{IsTurns, IsHaltedAfter}
use Rattle.ce_crew.specs.Workers.{HasLog}
use Rattle.ce_crew.specs.declared.worker.Worker.{Worker}
use Rattle.ce_crew.proofs.BestVectors.{times_none, times-append}
use Rattle.ce_crew.proofs.Grown.{actor_after-append}
use Rattle.ce_solve.specs.Actors.{IsOver, IsOverWorker, IsTold, IsFirstSeat, HasTurns, places_of, worker_places}
use Rattle.ce_solve.specs.Actors.{joined_all}
use Rattle.ce_solve.specs.ChaoticRun.{part_of, IsLogOf, IsCertifiedLow, IsCertifiedHigh, IsStopFound, IsStopSet, IsRun}
use Rattle.ce_solve.specs.declared.crew.Actor.{Actor}
use Rattle.ce_solve.specs.declared.crew.Actor.TheVariants.{Worker as AWorker, Session as ASession}
use Rattle.ce_solve.proofs.Joins.{all_head, all_tail}

-- A log of readings offers nothing, and does not find the stop word set.
reads_nothing : (is : Act → Bool) → is LoadsLow ≡ false → is LoadsHigh ≡ false → (c : ℕ) (rs : List Reading)
    → times is c (read_log rs) ≡ 0
reads_nothing is l h c [] = refl
reads_nothing is l h c (r ∷ rs) =
    let rest = reads_nothing is l h c rs in let here = times_none is c (steps_of r) (l, (h, tt)) in
    omega (arith, rest, here, times-append is c (steps_of r) (read_log rs))

reads_no_halt : (rs : List Reading) → halts (read_log rs) ≡ 0
reads_no_halt [] = refl
reads_no_halt (r ∷ rs) = let rest = reads_no_halt rs in omega (arith, rest)

-- What is summed over places is nothing at a session.
pub record IsNothingAtSessions (g : Place → ℕ) : Type 0 where
  pub sessions : (p : Place) (rs : List Reading) → p.log ≡ read_log rs → p.part.from ≡ p.part.to → g p ≡ 0

module _ (b : Board) (u : List ℕ) (g : Place → ℕ) (n : IsNothingAtSessions g) where
  pub workers_alone : (actors : List Actor) → All (IsOver b u) actors → Each IsTold actors
      → total g (places_of actors) ≡ total g (worker_places actors)
  workers_alone [] over told = refl
  workers_alone (AWorker w ∷ actors) over told =
      let rest = workers_alone actors (all_tail (IsOver b u) (AWorker w) actors over) told.1 in omega (arith, rest)
  workers_alone (ASession s ∷ actors) over told =
      let rest = workers_alone actors (all_tail (IsOver b u) (ASession s) actors over) told.1 in
      let here = n.sessions (view s.seat).place s.room.readings told.0.log
      (all_head (IsOver b u) (ASession s) actors over).empty in
      omega (arith, rest, here)

-- What holds of all joined places holds of the workers'.
pub each_worker : (P : Place → Type 0) (actors : List Actor) → Each P (places_of actors) → Each P (worker_places actors)
each_worker P [] e = tt
each_worker P (AWorker w ∷ actors) e = (e.0, each_worker P actors e.1)
each_worker P (ASession s ∷ actors) e = each_worker P actors e.1

nothing_offered : (is : Act → Bool) → is LoadsLow ≡ false → is LoadsHigh ≡ false → (c : ℕ)
    → IsNothingAtSessions (λ p. times is c p.log)
nothing_offered is l h c = record { sessions = λ p rs log empty. ap (times is c) log ∙ reads_nothing is l h c rs }

nothing_halted : IsNothingAtSessions (λ p. halts p.log)
nothing_halted = record { sessions = λ p rs log empty. ap halts log ∙ reads_no_halt rs }

nothing_had : (run : Run) (e x : ℕ) → IsNothingAtSessions (had run e x)
nothing_had run e x = record {
  sessions = λ p rs log empty.
      let none : in_part e p.part ≡ 0 =
      ap (λ (t : ℕ). in_part e (part p.part.from t)) (sym empty) ∙ in_part_none e p.part.from in
      omega (arith, ap (λ (k : ℕ). k * ((cond (eqb (slice_index run.start e) x) 1 0) + stores e x p.log)) none);
}

module _ (b : Board) (u : List ℕ) (actors : List Actor) (over : All (IsOver b u) actors) (told : Each IsTold actors)
    (v : View) (fresh : IsFirstSeat v (length actors)) (same : v.run ≡ board_run b) (l h : ℕ)
    (s : IsSettled (joined_all v (places_of actors)) l h) where
  abbrev run : Run
  run = v.run

  abbrev joined : View
  joined = joined_all v (places_of actors)

  abbrev places : List Place
  places = worker_places actors

  -- what is nothing at sessions is summed over the workers alone
  sum_is : (g : Place → ℕ) → IsNothingAtSessions g → by_place g joined ≡ total g places
  sum_is g n =
      omega (
        arith,
        n.sessions v.place [] fresh.log fresh.empty,
        ap
            (λ (ps : List Place). total g (ps ++ places_of actors)) fresh.joined,
        workers_alone b u g n actors over told,
      )

  -- what holds of all places of the view holds of the workers'
  at_workers : (P : Place → Type 0) → Each P (v.place ∷ (v.joined ++ places_of actors)) → Each P places
  at_workers P e = each_worker P actors (subst (λ (ps : List Place). Each P (ps ++ places_of actors)) fresh.joined e.1)

  pub low_sum : (c : ℕ) → by_place (λ p. times is_raise c p.log) joined ≡ total (λ p. times is_raise c p.log) places
  low_sum c = sum_is (λ p. times is_raise c p.log) (nothing_offered is_raise refl refl c)

  pub high_sum : (c : ℕ) → by_place (λ p. times is_lower c p.log) joined ≡ total (λ p. times is_lower c p.log) places
  high_sum c = sum_is (λ p. times is_lower c p.log) (nothing_offered is_lower refl refl c)

  ask_sum : (c : ℕ) → by_place (λ p. times is_ask c p.log) joined ≡ total (λ p. times is_ask c p.log) places
  ask_sum c = sum_is (λ p. times is_ask c p.log) (nothing_offered is_ask refl refl c)

  widens : Widens run (λ g. by_place g joined) (λ g. total g places)
  widens = record {
    low = λ c. omega (arith, low_sum c);
    high = λ c. omega (arith, high_sum c);
    count = λ c. omega (arith, ask_sum c);
    value = λ e x many. omega (arith, many, sum_is (had run e x) (nothing_had run e x));
  }

  pub answers_fit : Each (IsPossibleLog run (λ g. total g places)) places
  answers_fit =
      Each-more (IsPossibleLog run (λ g. by_place g joined)) (IsPossibleLog run (λ g. total g places))
      (λ p k. possible_more run (λ g. by_place g joined) (λ g. total g places) p widens k) places
      (at_workers (IsPossibleLog run (λ g. by_place g joined)) s.logs)

  pub greatest_of_run : IsGreatest run.initial.low (IsCertifiedLow places) l
  greatest_of_run =
      greatest_as run.initial.low (λ c. 0 < by_place (λ p. times is_raise c p.log) joined) (IsCertifiedLow places) l
      (λ c k. omega (arith, k, low_sum c)) (λ c k. omega (arith, k, low_sum c)) s.greatest

  pub least_of_run : IsLeast run.initial.high (IsCertifiedHigh places) h
  least_of_run =
      least_as run.initial.high (λ c. 0 < by_place (λ p. times is_lower c p.log) joined) (IsCertifiedHigh places) h
      (λ c k. omega (arith, k, high_sum c)) (λ c k. omega (arith, k, high_sum c)) s.least

  halted_sum : 0 < total (λ (p : Place). halts p.log) places → l ≡ h
  halted_sum many = s.halted (omega (arith, many, sum_is (λ p. halts p.log) nothing_halted))

  -- who found the stop word set, found it set by a worker
  stop_was_set : WasSet joined → IsStopFound places → IsStopSet places
  stop_was_set set many =
      let was = set (omega (arith, many, sum_is (λ p. halts p.log) nothing_halted)) in
      omega (arith, was, sum_is (λ p. times is_stop 1 p.log) (nothing_offered is_stop refl refl 1))

  halt_equal : (before halt : List LogEntry) (log : List LogEntry) → IsHalt halt → log ≡ before ++ halt
      → (0 < halts log → l ≡ h) → (kept run log).low ≤ l → h ≤ (kept run log).high → l ≡ h
  halt_equal before halt log (inl one) is set low high =
      let many : halts log ≡ halts before + 1 =
      ap halts (is ∙ ap (λ (x : List LogEntry). before ++ x) one) ∙ halts-snoc before (logged LoadsStop 0 1) in
      set (omega (arith, many))
  halt_equal before halt log (inr two) is set low high =
      let end : List LogEntry =
      logged LoadsStop 0 0 ∷ logged LoadsLow 0 two.0 ∷ logged LoadsHigh 0 two.0 ∷ logged Stops 1 1 ∷ [] in
      let own : kept run log ≡ actor_after (kept run before) end =
      ap (kept run) (is ∙ ap (λ (x : List LogEntry). before ++ x) two.1) ∙ actor_after-append _ before end in
      let a : (kept run log).low ≡ two.0 = ap (λ (k : ActorState). k.low) own in
      let c : (kept run log).high ≡ two.0 = ap (λ (k : ActorState). k.high) own in
      let order = s.order in omega arith

  log_of_worker : (turns : ℕ) (w : Worker) → IsOverWorker b u w → w.turns ≡ turns
      → (0 < halts (view w.seat).place.log → l ≡ h) → (kept run (view w.seat).place.log).low ≤ l
      → h ≤ (kept run (view w.seat).place.log).high → IsLogOf run turns l h (view w.seat).place
  log_of_worker turns w o t set low high = go w.halted refl o.worker.log
    where
      p : Place
      p = (view w.seat).place

      go : (x : Bool) → w.halted ≡ x → HasLog (board_run b) w.part x w.done w.made (view w.seat).place.log
          → IsLogOf run turns l h (view w.seat).place
      go true is g =
          let log : IsHaltedAfter run (view w.seat).place.part w.done (view w.seat).place.log =
          subst (λ (r : Run). IsHaltedAfter r (view w.seat).place.part w.done (view w.seat).place.log) (sym same)
          (subst (λ (q : Part). IsHaltedAfter (board_run b) q w.done (view w.seat).place.log) o.worker.its_part g)
          in
          inr (
            w.done,
            let left = o.worker.left is in omega (arith, left, t),
            log,
            halt_equal log.before log.halt
                (view w.seat).place.log log.halts log.log_is set low high,
          )
      go false is g =
          let log : IsTurns run (view w.seat).place.part w.done (view w.seat).place.log w.made =
          subst (λ (r : Run). IsTurns r (view w.seat).place.part w.done (view w.seat).place.log w.made) (sym same)
          (subst (λ (q : Part). IsTurns (board_run b) q w.done (view w.seat).place.log w.made) o.worker.its_part g)
          in
          inl (
            w.made,
            subst (λ (n : ℕ). IsTurns run (view w.seat).place.part n (view w.seat).place.log w.made)
                (all ∙ t) log,
          )
        where
          all : w.done ≡ w.turns
          all = elim o.ends [ inl done ↦ done | inr halted ↦ absurd (false≢true (sym is ∙ halted)) ]

  logs_of : (turns : ℕ) (xs : List Actor) → All (IsOver b u) xs → All (HasTurns turns) xs
      → (0 < total (λ (p : Place). halts p.log) (worker_places xs) → l ≡ h)
      → Each (λ p. (kept run p.log).low ≤ l) (worker_places xs) → Each (λ p. h ≤ (kept run p.log).high)
      (worker_places xs) → Each (IsLogOf run turns l h) (worker_places xs)
  logs_of turns [] o t set low high = tt
  logs_of turns (AWorker w ∷ xs) o t set low high = (
    log_of_worker turns w (all_head (IsOver b u) (AWorker w) xs o) (all_head (HasTurns turns) (AWorker w) xs t)
        (λ many. set (omega (arith, many))) low.0 high.0,
    logs_of turns xs (all_tail (IsOver b u) (AWorker w) xs o) (all_tail (HasTurns turns) (AWorker w) xs t)
        (λ many. set (omega (arith, many))) low.1 high.1,
  )
  logs_of turns (ASession x ∷ xs) o t set low high =
      logs_of turns xs (all_tail (IsOver b u) (ASession x) xs o)
      (all_tail (HasTurns turns) (ASession x) xs t) set low high

  pub is_run : WasSet joined → (turns : ℕ) → All (HasTurns turns) actors
      → ((k : ℕ) (p : Place) → get_elem? places k ≡ some p → p.part ≡ part_of (length (board_run b).rows)
      (length places) k) → IsRun (board_run b) turns places l h
  is_run set turns t parts =
      let own : ((k : ℕ) (p : Place) → get_elem? places k ≡ some p → p.part ≡ part_of (length v.run.rows)
      (length places) k) → IsRun v.run turns places l h = λ ps. record {
        parts = ps;
        logs = logs_of turns actors over t halted_sum (at_workers (λ p. (kept run p.log).low ≤ l) s.low_seen)
            (at_workers (λ p. h ≤ (kept run p.log).high) s.high_seen);
        answers = answers_fit;
        stopped = stop_was_set set;
        greatest = greatest_of_run;
        least = least_of_run;
      } in
      subst (λ (r : Run). ((k : ℕ) (p : Place) → get_elem? places k ≡ some p → p.part ≡ part_of (length r.rows)
      (length places) k) → IsRun r turns places l h) same own parts
