-- A run with one place is determined: its log, its interval, its vectors and its certificate.
use Rattle.std.proofs.Common.{◌≡◌, ℕ, ◌<◌, ◌≤◌, ◌⊎◌, inl, inr, Bool, List, [], ◌∷◌, ◌++◌}
use Rattle.std.proofs.Common.{length, refl, sym, ap, ◌∙◌, subst, arith, append-nil}
use mathlib.Core.Logic.{dite}
use native.Mathlib.Decide.{ℕ_discrete}
use Rattle.std.proofs.lemmas.Bool.{cases_lt}
use Rattle.ce_rows.specs.declared.act.Act.{Act}
use Rattle.ce_rows.specs.declared.act.Act.TheVariants.{Raises, Lowers, LoadsLow, LoadsHigh, LoadsStop}
use Rattle.ce_rows.specs.declared.act.LogEntry.{LogEntry}
use Rattle.ce_words.specs.Invariant.{IsGreatest, IsLeast}
use Rattle.ce_words.specs.Logs.{is_raise, is_lower, is_stop, times, halts, offer, total, EachFits}
use Rattle.ce_words.specs.Views.{kept, logged}
use Rattle.ce_words.specs.declared.view.Part.{Part}
use Rattle.ce_words.specs.declared.view.Place.{Place}
use Rattle.ce_words.specs.declared.view.Run.{Run}
use Rattle.ce_words.proofs.Logs.{times-snoc}
use Rattle.ce_words.proofs.Seats.{greatest_as, least_as}
use Rattle.ce_crew.specs.WorkerLogs.{IsTurns}
use Rattle.ce_crew.proofs.BestVectors.{times-append}
use Rattle.ce_solve.specs.ChaoticRun.{IsLogOf, IsRun, IsCertifiedLow, IsCertifiedHigh}
use Rattle.ce_solve.specs.ClosingVectors.{IsClosingLow, IsClosingHigh, IsFirstLowAmong, IsFirstHighAmong}
use Rattle.ce_solve.proofs.ClosingEnds.{one_offer}
use Rattle.ce_crew.proofs.LoneSteps.{EachFits-split, IsOffered, IsLoneStep, FitsAlone, lone_steps, one_greatest}
use Rattle.ce_crew.proofs.LoneSteps.{one_least}
use Rattle.ce_crew.proofs.LoneTurns.{one_log, goes_on}
use Rattle.ce_crew.proofs.WorkerTurns.{halt_silent}
use Rattle.ce_solve.proofs.LoneHalts.{own_halt, lone_halt}
use Rattle.ce_solve.proofs.LoneLogs.{one_first, never, in_one}

module _ (run : Run) (turns : ℕ) where
  -- A log of turns, and perhaps of a halt, and the bounds with which its run closed.
  pub record HasEnded (p : Part) (low high : ℕ) (q : Place) : Type 0 where
    pub done : ℕ
    pub made : ℕ
    pub before : List LogEntry
    pub halt : List LogEntry
    pub turned : IsTurns run p done before made
    pub log_is : q.log ≡ before ++ halt
    pub no_raise : (c : ℕ) → times is_raise c halt ≡ 0
    pub no_lower : (c : ℕ) → times is_lower c halt ≡ 0
    pub ends : ((done ≡ turns) × (halt ≡ [])) ⊎ ((done < turns) × ((halt ≡ own_halt low) × (low ≡ high)))
    pub fits : EachFits (FitsAlone run q) [] (before ++ halt)
    pub low_is : IsGreatest run.initial.low (λ c. 0 < times is_raise c before) low
    pub high_is : IsLeast run.initial.high (λ c. 0 < times is_lower c before) high

  -- what one place certified, it certified in its turns
  certified : (is : Act → Bool) (c : ℕ) (q : Place) (before halt : List LogEntry) → q.log ≡ before ++ halt
      → times is c halt ≡ 0 → total (λ (r : Place). times is c r.log) (q ∷ []) ≡ times is c before
  certified is c q before halt log quiet =
      let whole = ap (times is c) log in omega (arith, whole, times-append is c before halt, quiet)

  module _ (q : Place) (low high : ℕ) (r : IsRun run turns (q ∷ []) low high) where
    best_low : (before halt : List LogEntry) → q.log ≡ before ++ halt → ((c : ℕ) → times is_raise c halt ≡ 0)
        → IsGreatest run.initial.low (λ c. 0 < times is_raise c before) low
    best_low before halt log quiet =
        greatest_as run.initial.low (IsCertifiedLow (q ∷ [])) (λ c. 0 < times is_raise c before) low
        (λ c l. subst (λ (k : ℕ). 0 < k) (certified is_raise c q before halt log (quiet c)) l)
        (λ c l. subst (λ (k : ℕ). 0 < k) (sym (certified is_raise c q before halt log (quiet c))) l) r.greatest

    ended_as : (done made : ℕ) (before halt : List LogEntry) → IsTurns run q.part done before made
        → q.log ≡ before ++ halt → ((c : ℕ) → times is_raise c halt ≡ 0) → ((c : ℕ) → times is_lower c halt ≡ 0)
        → ((done ≡ turns) × (halt ≡ [])) ⊎ ((done < turns) × ((halt ≡ own_halt low) × (low ≡ high)))
        → HasEnded q.part low high q
    ended_as done made before halt turned log raise lower ends = record {
      done = done;
      made = made;
      before = before;
      halt = halt;
      turned = turned;
      log_is = log;
      no_raise = raise;
      no_lower = lower;
      ends = ends;
      fits = subst (λ (l : List LogEntry). EachFits (FitsAlone run q) [] l) log r.answers.0;
      low_is = best_low before halt log raise;
      high_is = least_as run.initial.high (IsCertifiedHigh (q ∷ [])) (λ c. 0 < times is_lower c before) high
          (λ c l. subst (λ (k : ℕ). 0 < k) (certified is_lower c q before halt log (lower c)) l)
          (λ c l. subst (λ (k : ℕ). 0 < k) (sym (certified is_lower c q before halt log (lower c))) l) r.least;
    }

    -- who found the stop word set, had set it
    set_itself : 0 < halts q.log → 0 < times is_stop 1 q.log
    set_itself many = let was = r.stopped (omega (arith, many)) in omega (arith, was)

    pub ended : HasEnded q.part low high q
    ended = go r.logs.0
      where
        go : IsLogOf run turns low high q → HasEnded q.part low high q
        go (inl t) = ended_as turns t.0 q.log [] t.1 (sym (append-nil q.log)) (λ c. refl) (λ c. refl)
            (inl (refl, refl))
        go (inr t) =
            let h = t.2 in
            let raise = halt_silent is_raise refl refl refl refl h.halt h.halts in
            let halt = lone_halt run q q.part t.0 h.made low h.before h.halt h.turned h.log_is r.answers.0
            (best_low h.before h.halt h.log_is raise) set_itself h.halts in
            ended_as t.0 h.made h.before h.halt h.turned h.log_is raise
            (halt_silent is_lower refl refl refl refl h.halt h.halts) (inr (t.1, (halt, t.3)))

  at_most : (p : Part) (q : Place) (low high : ℕ) → (e : HasEnded p low high q) → e.done ≤ turns
  at_most p q low high e = elim e.ends [
    | inl all ↦ (let same = all.0 in omega arith)
    | inr halted ↦ (let less = halted.0 in omega (arith, less))
  ]

  module _ (p : Part) (q q' : Place) (low high low' high' : ℕ) where
    -- A log whose closing bounds are equal after so many turns: no other goes on then.
    pub no_more : (e : HasEnded p low high q) (f : HasEnded p low' high' q')
        → e.done < f.done → ⊥
    no_more e f less =
        let g = goes_on run p f.done e.done f.made f.before less f.turned in
        let fit = EachFits-split (FitsAlone run q') [] f.before f.halt f.fits in
        let cut = EachFits-split (FitsAlone run q') [] g.before (g.turn ++ g.later)
        (subst (λ (l : List LogEntry). EachFits (FitsAlone run q') [] l) g.log_is fit.0) in
        let next = EachFits-split (FitsAlone run q') g.before g.turn g.later cut.1 in
        let own = EachFits-split (FitsAlone run q) [] e.before e.halt e.fits in
        let same = (one_log run p q q' e.done e.made g.made e.before g.before e.turned g.turns own.0 cut.0).0 in
        let t = g.is_turn in
        let lone = subst (λ (l : List LogEntry). EachFits (IsLoneStep run) g.before l) t.parts
        (lone_steps run q' g.before g.turn t.steps next.0) in
        let look = logged LoadsStop 0 0 in let sees = logged LoadsLow 0 t.low in
        let raised : (c : ℕ) → times is_raise c (g.before ++ look ∷ []) ≡ times is_raise c e.before =
        λ c. let n = ap (times is_raise c) same in omega (arith, times-snoc is_raise c g.before look, n) in
        let lowered : (c : ℕ) → times is_lower c ((g.before ++ look ∷ []) ++ sees ∷ []) ≡ times is_lower c e.before =
        λ c. let n = ap (times is_lower c) same in
        omega (arith, times-snoc is_lower c (g.before ++ look ∷ []) sees, times-snoc is_lower c g.before look, n) in
        let low_seen : IsGreatest run.initial.low (λ c. 0 < times is_raise c e.before) t.low =
        greatest_as run.initial.low (IsOffered is_raise (g.before ++ look ∷ []) LoadsLow 0)
        (λ c. 0 < times is_raise c e.before) t.low (λ c l. omega (arith, l, raised c))
        (λ c l. omega (arith, l, raised c)) lone.1.0.answers in
        let high_seen : IsLeast run.initial.high (λ c. 0 < times is_lower c e.before) t.high =
        least_as run.initial.high (IsOffered is_lower ((g.before ++ look ∷ []) ++ sees ∷ []) LoadsHigh 0)
        (λ c. 0 < times is_lower c e.before) t.high (λ c l. omega (arith, l, lowered c))
        (λ c l. omega (arith, l, lowered c)) lone.1.1.0.answers in
        let at_low = one_greatest run.initial.low low t.low (λ c. 0 < times is_raise c e.before) e.low_is low_seen in
        let at_high = one_least run.initial.high high t.high (λ c. 0 < times is_lower c e.before) e.high_is high_seen in
        let met : low ≡ high = elim e.ends [
          | inl all ↦ absurd (let bound = at_most p q' low' high' f in omega (arith, less, bound, all.0))
          | inr halted ↦ halted.1.1
        ] in
        t.apart (sym at_low ∙ (met ∙ at_high))

  module _ (p : Part) (q r : Place) (low high least most : ℕ) (e : HasEnded p low high q) (f : HasEnded p least most r)
    where
      -- Two runs with one place took as many turns, and the same ones.
      one_count : e.done ≡ f.done
      one_count = dite (ℕ_discrete e.done f.done) (λ same. same)
          (λ ne. elim (cases_lt e.done f.done) [
            | inl less ↦ absurd (no_more p q r low high least most e f less)
            | inr le ↦ absurd (no_more p r q least most low high f e (omega (arith, ne, le)))
          ])

      one_before : e.before ≡ f.before
      one_before =
          let own = EachFits-split (FitsAlone run q) [] e.before e.halt e.fits in
          let other = EachFits-split (FitsAlone run r) [] f.before f.halt f.fits in
          let turned = subst (λ (k : ℕ). IsTurns run p k e.before e.made) one_count e.turned in
          (one_log run p q r f.done e.made f.made e.before f.before turned f.turned own.0 other.0).0

      -- With the same closing bound they are the same log.
      same_log : low ≡ least → q.log ≡ r.log
      same_log bound = e.log_is ∙ ((λ i. one_before i ++ halts_agree i) ∙ sym f.log_is)
        where
          halts_agree : e.halt ≡ f.halt
          halts_agree = elim e.ends [
            | inl all ↦ elim f.ends [
              | inl both ↦ all.1 ∙ sym both.1
              | inr halted ↦ absurd (omega (arith, all.0, halted.0, one_count))
            ]
            | inr halted ↦ elim f.ends [
              | inl all ↦ absurd (omega (arith, all.0, halted.0, one_count))
              | inr both ↦ halted.1.0 ∙ (ap own_halt bound ∙ sym both.1.0)
            ]
          ]

  -- Two runs with one place each.
  pub record AreTwo (places others : List Place) (low high least most : ℕ) : Type 0 where
    pub here : Place
    pub there : Place
    pub places_are : places ≡ here ∷ []
    pub others_are : others ≡ there ∷ []
    pub first : HasEnded here.part low high here
    pub second : HasEnded here.part least most there

  pub are_two : (places others : List Place) (low high least most : ℕ) → length places ≡ 1 → length others ≡ 1
      → IsRun run turns places low high → IsRun run turns others least most → AreTwo places others low high least most
  are_two [] others low high least most one alone h k = absurd (omega (arith, one))
  are_two (q ∷ x ∷ xs) others low high least most one alone h k = absurd (omega (arith, one))
  are_two (q ∷ []) [] low high least most one alone h k = absurd (omega (arith, alone))
  are_two (q ∷ []) (r ∷ y ∷ ys) low high least most one alone h k = absurd (omega (arith, alone))
  are_two (q ∷ []) (r ∷ []) low high least most one alone h k = record {
    here = q;
    there = r;
    places_are = refl;
    others_are = refl;
    first = ended q low high h;
    second = subst (λ (p : Part). HasEnded p least most r) (k.parts 0 r refl ∙ sym (h.parts 0 q refl))
        (ended r least most k);
  }

  module _ (places others : List Place) (low high least most : ℕ) (t : AreTwo places others low high least most) where
    turns_agree : t.first.before ≡ t.second.before
    turns_agree = one_before t.here.part t.here t.there low high least most t.first t.second

    pub one_low : low ≡ least
    one_low = one_greatest run.initial.low low least (λ c. 0 < times is_raise c t.second.before)
        (subst (λ (l : List LogEntry). IsGreatest run.initial.low (λ c. 0 < times is_raise c l) low) turns_agree
        t.first.low_is) t.second.low_is

    pub one_high : high ≡ most
    one_high = one_least run.initial.high high most (λ c. 0 < times is_lower c t.second.before)
        (subst (λ (l : List LogEntry). IsLeast run.initial.high (λ c. 0 < times is_lower c l) high) turns_agree
        t.first.high_is) t.second.high_is

    -- Where the two logs first offered a number, they agree up to there.
    first_agrees : (is : Act → Bool) (c : ℕ) (q r : Place) (xs xs' ys ys' : List LogEntry) (s s' : LogEntry)
        → q ≡ t.here → r ≡ t.there → q.log ≡ xs ++ s ∷ ys → r.log ≡ xs' ++ s' ∷ ys' → times is c xs ≡ 0
        → times is c xs' ≡ 0 → 0 < offer is c s → 0 < offer is c s' → times is c t.first.halt ≡ 0
        → times is c t.second.halt ≡ 0 → (kept run xs).copy ≡ (kept run xs').copy
    first_agrees is c q r xs xs' ys ys' s s' here there log log' none none' offers offers' quiet quiet' =
        let one = sym log ∙ (ap (λ (p : Place). p.log) here ∙ t.first.log_is) in
        let two = sym log' ∙ (ap (λ (p : Place). p.log) there ∙ (t.second.log_is
        ∙ ap (λ (l : List LogEntry). l ++ t.second.halt) (sym turns_agree))) in
        ap (λ (l : List LogEntry). (kept run l).copy)
        (one_first is c xs xs' ys ys' t.first.before t.first.halt t.second.halt s s' one two none none' offers offers'
        quiet quiet')

    pub one_low_vector : (beginning vector other : List ℕ)
        → IsClosingLow run run.initial.low beginning places low vector
        → IsClosingLow run run.initial.low beginning others least other → vector ≡ other
    one_low_vector beginning vector other h k = elim h.source [
      | inl a ↦ elim k.source [
        | inl b ↦ a.1 ∙ sym b.1
        | inr b ↦ absurd (omega (arith, a.0, b.0, one_low))
      ]
      | inr a ↦ elim k.source [
        | inl b ↦ absurd (omega (arith, a.0, b.0, one_low))
        | inr b ↦ shown a.1 b.1
      ]
    ]
      where
        shown : IsFirstLowAmong run places low vector → IsFirstLowAmong run others least other → vector ≡ other
        shown a b0 =
            let b = subst (λ (n : ℕ). IsFirstLowAmong run others n other) (sym one_low) b0 in
            a.first.vector_is ∙ (first_agrees is_raise low a.place b.place a.first.before b.first.before
            a.first.after b.first.after (logged Raises low a.first.answer) (logged Raises low b.first.answer)
            (in_one a.before a.place t.here a.after (sym t.places_are ∙ a.places_are))
            (in_one b.before b.place t.there b.after (sym t.others_are ∙ b.places_are))
            a.first.log_is b.first.log_is
            (never is_raise low a.first.before (λ l. let less = a.first.less low l in omega (arith, less)))
            (never is_raise low b.first.before (λ l. let less = b.first.less low l in omega (arith, less)))
            (omega (arith, one_offer low)) (omega (arith, one_offer low))
            (t.first.no_raise low) (t.second.no_raise low)
            ∙ sym b.first.vector_is)

    pub one_high_vector : (beginning vector other : List ℕ)
        → IsClosingHigh run run.initial.high beginning places high vector
        → IsClosingHigh run run.initial.high beginning others most other → vector ≡ other
    one_high_vector beginning vector other h k = elim h.source [
      | inl a ↦ elim k.source [
        | inl b ↦ a.1 ∙ sym b.1
        | inr b ↦ absurd (omega (arith, a.0, b.0, one_high))
      ]
      | inr a ↦ elim k.source [
        | inl b ↦ absurd (omega (arith, a.0, b.0, one_high))
        | inr b ↦ shown a.1 b.1
      ]
    ]
      where
        shown : IsFirstHighAmong run places high vector → IsFirstHighAmong run others most other → vector ≡ other
        shown a b0 =
            let b = subst (λ (n : ℕ). IsFirstHighAmong run others n other) (sym one_high) b0 in
            a.first.vector_is ∙ (first_agrees is_lower high a.place b.place a.first.before b.first.before
            a.first.after b.first.after (logged Lowers high a.first.answer) (logged Lowers high b.first.answer)
            (in_one a.before a.place t.here a.after (sym t.places_are ∙ a.places_are))
            (in_one b.before b.place t.there b.after (sym t.others_are ∙ b.places_are))
            a.first.log_is b.first.log_is
            (never is_lower high a.first.before (λ l. let more = a.first.more high l in omega (arith, more)))
            (never is_lower high b.first.before (λ l. let more = b.first.more high l in omega (arith, more)))
            (omega (arith, one_offer high)) (omega (arith, one_offer high))
            (t.first.no_lower high) (t.second.no_lower high)
            ∙ sym b.first.vector_is)

  pub one_whole_log : (q r : Place) (low high least most : ℕ) → IsRun run turns (q ∷ []) low high
      → IsRun run turns (r ∷ []) least most → q.log ≡ r.log
  unfolding are_two
  one_whole_log q r low high least most h k =
      let t = are_two (q ∷ []) (r ∷ []) low high least most refl refl h k in
      same_log q.part q r low high least most t.first t.second (one_low (q ∷ []) (r ∷ []) low high least most t)
