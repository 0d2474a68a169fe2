-- Readings lie inside the initial enclosure, and their ends are initial or certified.
use Rattle.std.proofs.Common.{◌≡◌, ℕ, ◌<◌, ◌⊎◌, inl, inr, List, [], ◌∷◌, ◌++◌, refl, ◌∙◌, subst, arith}
use Rattle.ce_rows.specs.declared.act.Act.TheVariants.{LoadsLow, LoadsHigh}
use Rattle.ce_rows.specs.declared.act.LogEntry.{LogEntry}
use Rattle.ce_words.specs.Logs.{is_raise, is_lower, is_ask, times, Each, EachFits, AnswersUp, AnswersDown, AnswerFits}
use Rattle.ce_words.specs.Logs.{IsPossibleLog, had}
use Rattle.ce_words.specs.Steps.{LiesInside}
use Rattle.ce_words.specs.Views.{view, kept, logged}
use Rattle.ce_words.specs.declared.view.Part.{Part}
use Rattle.ce_words.specs.declared.view.Place.{Place}
use Rattle.ce_words.specs.declared.view.Run.{Run}
use Rattle.ce_words.proofs.Sums.{Each-append, Each-more}
use Rattle.ce_words.proofs.Logs.{times-snoc}
use Rattle.ce_live.specs.Sessions.{read_log}
use Rattle.ce_live.specs.declared.reading.Reading.{Reading}
use Rattle.ce_solve.specs.Actors.{IsTold, places_of, readings_of}
use Rattle.ce_solve.specs.declared.crew.Actor.{Actor}
use Rattle.ce_solve.specs.declared.crew.Actor.TheVariants.{Worker as AWorker, Session as ASession}

module _ (run : Run) (low_theirs high_theirs count_theirs : ℕ → Type 0) (value : ℕ → ℕ → Type 0) (p : Part) where
  abbrev Fits : List LogEntry → LogEntry → Type 0
  Fits before n = AnswerFits run low_theirs high_theirs count_theirs value p before n.act n.answer (before ++ n ∷ [])

  abbrev pub HasEnds : Reading → Type 0
  HasEnds r =
      ((r.interval.low ≡ run.initial.low) ⊎ low_theirs r.interval.low)
      × ((r.interval.high ≡ run.initial.high) ⊎ high_theirs r.interval.high)

  up : (before : List LogEntry) (n : LogEntry) (a : ℕ) → times is_raise a (before ++ n ∷ []) ≡ 0
      → AnswersUp run.initial.low (kept run before).low (λ c. 0 < times is_raise c (before ++ n ∷ [])) low_theirs a
      → (a ≡ run.initial.low) ⊎ low_theirs a
  up before n a none f = go f.source
    where
      go : (a ≡ run.initial.low) ⊎ ((0 < times is_raise a (before ++ n ∷ [])) ⊎ low_theirs a)
          → (a ≡ run.initial.low) ⊎ low_theirs a
      go (inl is) = inl is
      go (inr (inl mine)) = absurd (omega (arith, none, mine))
      go (inr (inr other)) = inr other

  down : (before : List LogEntry) (n : LogEntry) (a : ℕ) → times is_lower a (before ++ n ∷ []) ≡ 0
      → AnswersDown run.initial.high (kept run before).high (λ c. 0 < times is_lower c (before ++ n ∷ [])) high_theirs a
      → (a ≡ run.initial.high) ⊎ high_theirs a
  down before n a none f = go f.source
    where
      go : (a ≡ run.initial.high) ⊎ ((0 < times is_lower a (before ++ n ∷ [])) ⊎ high_theirs a)
          → (a ≡ run.initial.high) ⊎ high_theirs a
      go (inl is) = inl is
      go (inr (inl mine)) = absurd (omega (arith, none, mine))
      go (inr (inr other)) = inr other

  pub ends_of : (before : List LogEntry) (rs : List Reading) → ((c : ℕ) → times is_raise c before ≡ 0)
      → ((c : ℕ) → times is_lower c before ≡ 0) → EachFits Fits before (read_log rs) → Each HasEnds rs
  ends_of before [] nl nh f = tt
  ends_of before (r ∷ rs) nl nh f =
      let a = logged LoadsLow 0 r.interval.low in let b = logged LoadsHigh 0 r.interval.high in
      let la : (c : ℕ) → times is_raise c (before ++ a ∷ []) ≡ 0 =
      λ c. times-snoc is_raise c before a ∙ (let z = nl c in omega arith) in
      let ha : (c : ℕ) → times is_lower c (before ++ a ∷ []) ≡ 0 =
      λ c. times-snoc is_lower c before a ∙ (let z = nh c in omega arith) in
      let lb : (c : ℕ) → times is_raise c ((before ++ a ∷ []) ++ b ∷ []) ≡ 0 =
      λ c. times-snoc is_raise c (before ++ a ∷ []) b ∙ (let z = la c in omega arith) in
      let hb : (c : ℕ) → times is_lower c ((before ++ a ∷ []) ++ b ∷ []) ≡ 0 =
      λ c. times-snoc is_lower c (before ++ a ∷ []) b ∙ (let z = ha c in omega arith) in (
        (
          up before a r.interval.low (la r.interval.low) f.0,
          down (before ++ a ∷ []) b r.interval.high
              (hb r.interval.high) f.1.0,
        ),
        ends_of ((before ++ a ∷ []) ++ b ∷ []) rs lb hb f.1.1,
      )

  -- Each reading lies inside the initial enclosure.
  pub inside_of : (before : List LogEntry) (rs : List Reading) → EachFits Fits before (read_log rs)
      → Each (λ (r : Reading). LiesInside run.initial.low run.initial.high r.interval.low r.interval.high) rs
  inside_of before [] f = tt
  inside_of before (r ∷ rs) f =
      let a = logged LoadsLow 0 r.interval.low in
      let b = logged LoadsHigh 0 r.interval.high in
      (record { from = f.0.from; to = f.1.0.from }, inside_of ((before ++ a ∷ []) ++ b ∷ []) rs f.1.1)

pub readings_inside : (run : Run) (W : (Place → ℕ) → ℕ) (actors : List Actor) → Each IsTold actors
    → Each (IsPossibleLog run W) (places_of actors)
    → Each (λ (r : Reading). LiesInside run.initial.low run.initial.high r.interval.low r.interval.high)
    (readings_of actors)
readings_inside run W [] told logs = tt
readings_inside run W (AWorker w ∷ actors) told logs = readings_inside run W actors told.1 logs.1
readings_inside run W (ASession s ∷ actors) told logs =
    let p : Place = (view s.seat).place in
    let lt : ℕ → Type 0 = λ c. times is_raise c p.log < W (λ q. times is_raise c q.log) in
    let ht : ℕ → Type 0 = λ c. times is_lower c p.log < W (λ q. times is_lower c q.log) in
    let ct : ℕ → Type 0 = λ c. times is_ask c p.log < W (λ q. times is_ask c q.log) in
    let value : ℕ → ℕ → Type 0 = λ e x. 0 < W (had run e x) in
    let fits = subst (λ (x : List LogEntry). EachFits (Fits run lt ht ct value p.part) [] x) told.0.log logs.0 in
    Each-append
    (λ (r : Reading). LiesInside run.initial.low run.initial.high r.interval.low r.interval.high) s.room.readings
    (readings_of actors) (inside_of run lt ht ct value p.part [] s.room.readings fits)
    (readings_inside run W actors told.1 logs.1)

-- What readings end at, for all sessions among actors, among places over which W sums.
pub readings_end : (run : Run) (W : (Place → ℕ) → ℕ) (L H : ℕ → Type 0) (actors : List Actor)
    → ((c : ℕ) → 0 < W (λ q. times is_raise c q.log) → L c) → ((c : ℕ) → 0 < W (λ q. times is_lower c q.log) → H c)
    → Each IsTold actors → Each (IsPossibleLog run W) (places_of actors)
    → Each (λ (r : Reading). ((r.interval.low ≡ run.initial.low) ⊎ L r.interval.low)
    × ((r.interval.high ≡ run.initial.high) ⊎ H r.interval.high)) (readings_of actors)
readings_end run W L H [] l h told logs = tt
readings_end run W L H (AWorker w ∷ actors) l h told logs = readings_end run W L H actors l h told.1 logs.1
readings_end run W L H (ASession s ∷ actors) l h told logs =
    let p : Place = (view s.seat).place in
    let lt : ℕ → Type 0 = λ c. times is_raise c p.log < W (λ q. times is_raise c q.log) in
    let ht : ℕ → Type 0 = λ c. times is_lower c p.log < W (λ q. times is_lower c q.log) in
    let ct : ℕ → Type 0 = λ c. times is_ask c p.log < W (λ q. times is_ask c q.log) in
    let value : ℕ → ℕ → Type 0 = λ e x. 0 < W (had run e x) in
    let fits = subst (λ (x : List LogEntry). EachFits (Fits run lt ht ct value p.part) [] x) told.0.log logs.0 in
    let ends = ends_of run lt ht ct value p.part [] s.room.readings (λ c. refl) (λ c. refl) fits in
    Each-append (λ (r : Reading). ((r.interval.low ≡ run.initial.low) ⊎ L r.interval.low)
    × ((r.interval.high ≡ run.initial.high) ⊎ H r.interval.high)) s.room.readings (readings_of actors)
    (Each-more (HasEnds run lt ht ct value p.part)
    (λ (r : Reading). ((r.interval.low ≡ run.initial.low) ⊎ L r.interval.low)
    × ((r.interval.high ≡ run.initial.high) ⊎ H r.interval.high))
    (λ r k. (
      elim k.0 [ inl is ↦ inl is | inr other ↦ inr (l r.interval.low (omega (arith, other))) ],
      elim k.1 [ inl is ↦ inl is | inr other ↦ inr (h r.interval.high (omega (arith, other))) ],
    )) s.room.readings
    ends)
    (readings_end run W L H actors l h told.1 logs.1)
