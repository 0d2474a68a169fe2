-- The bounds of a run enclose, whatever old values its workers met: no log ever stores 0, so each copy is positive, and
-- the Collatz-Wielandt bounds of a positive vector enclose.
use Rattle.std.proofs.Common.{◌≡◌, ℕ, zero, suc, ◌+◌, ◌*◌, ◌<◌, ◌≤◌, inl, inr, Bool, true, false, cond, eqb, List, []}
use Rattle.std.proofs.Common.{◌∷◌, ◌++◌, length, slice_index, sym, refl, ap, ◌∙◌, subst, arith, eq-eqb}
use Rattle.std.specs.Prelude.{All}
use Rattle.std.proofs.lemmas.Bool.{cases_lt, eqb-true}
use Rattle.std.proofs.lemmas.List.{set_past}
use Rattle.std.proofs.lemmas.List.Elements.{All-set, All-get_or}
use Rattle.ce_cert.proofs.Defined.{low_is_lower_bound, high_is_upper_bound}
use Rattle.ce_rows.specs.Actors.{ActorState, after_answer}
use Rattle.ce_rows.specs.Events.{Shared}
use Rattle.ce_rows.specs.Rows.{EnclosesRows, IsLowerBoundOf, IsUpperBoundOf}
use Rattle.ce_rows.specs.declared.act.Act.{Act}
use Rattle.ce_rows.specs.declared.act.Act.TheVariants.{Loads, Relaxes, Shrinks, Raises, Lowers}
use Rattle.ce_rows.specs.declared.act.LogEntry.{LogEntry}
use Rattle.ce_words.specs.Logs.{is_raise, is_lower, offer, times, total, in_part, store_mark, stores, had, Each}
use Rattle.ce_words.specs.Logs.{EachFits, IsPossibleLog}
use Rattle.ce_words.specs.Views.{rows_of, kept, logged}
use Rattle.ce_words.specs.declared.view.Part.{Part}
use Rattle.ce_words.specs.declared.view.Place.{Place}
use Rattle.ce_words.specs.declared.view.Run.{Run}
use Rattle.ce_words.proofs.Logs.{Fits, kept-snoc}
use Rattle.ce_words.proofs.Sums.{Each-more}
use Rattle.ce_crew.specs.MachineSteps.{IsMachineStep, AreMachineSteps}
use Rattle.ce_crew.specs.Turn.{IsHalt}
use Rattle.ce_crew.specs.WorkerLogs.{IsTurns}
use Rattle.ce_crew.proofs.BestVectors.{offered}
use Rattle.ce_crew.proofs.Grown.{length-after, steps-append}
use Rattle.ce_solve.proofs.Beginnings.{HasTrueStart}
use Rattle.ce_solve.specs.ChaoticRun.{IsLogOf, IsCertifiedLow, IsCertifiedHigh, IsRun, HasKnownEnds}

-- A state of the shared words, for the answers of a halt.
abbrev words : ℕ → ℕ → Shared
words bound stop = record { entries = []; low = bound; high = bound; shift = 0; stop = stop }

-- A halt is steps of the machine too.
halt_steps : (run : Run) (own : ActorState) (halt : List LogEntry) → IsHalt halt → AreMachineSteps run own halt
halt_steps run own halt (inl found) =
    subst (AreMachineSteps run own) (sym found) (record { carries = refl; found = words 0 1; answers = refl }, tt)
halt_steps run own halt (inr (bound, set)) =
    let equal = ap (λ (b : Bool). cond b 1 0) (sym (eq-eqb bound bound refl)) in
    subst (AreMachineSteps run own) (sym set) (
      record { carries = refl; found = words bound 0; answers = refl },
      (
        record { carries = refl; found = words bound 0; answers = refl },
        (
          record { carries = refl; found = words bound 0; answers = refl },
          (record { carries = equal; found = words bound 0; answers = refl }, tt),
        ),
      ),
    )

module _ (run : Run) where
  abbrev IsMachineLog : Place → Type 0
  IsMachineLog p = AreMachineSteps run (kept run []) p.log

  turn_steps : (p : Part) (turns : ℕ) (log : List LogEntry) (made : ℕ) → IsTurns run p turns log made
      → AreMachineSteps run (kept run []) log
  turn_steps p zero log made h = subst (AreMachineSteps run (kept run [])) (sym h.0) tt
  turn_steps p (suc turns) log made h =
      subst (AreMachineSteps run (kept run [])) (sym h.log_is)
      (steps-append run (kept run []) h.before h.turn (turn_steps p turns h.before h.made_before h.turns)
      h.is_turn.steps)

  log_steps : (turns low high : ℕ) (p : Place) → IsLogOf run turns low high p → IsMachineLog p
  log_steps turns low high p (inl t) = turn_steps p.part turns p.log t.0 t.1
  log_steps turns low high p (inr t) =
      let h = t.2 in
      subst (AreMachineSteps run (kept run [])) (sym h.log_is)
      (steps-append run (kept run []) h.before h.halt (turn_steps p.part t.0 h.before h.made h.turned)
      (halt_steps run (kept run h.before) h.halt h.halts))

  -- What a step stores is positive.
  stored_some : (b : Bool) (a : ℕ) → 1 ≤ a → ◌≡◌ {A = ℕ} (cond b (cond (eqb a 0) 1 0) 0) 0
  stored_some true a some = go (eqb a 0) refl
    where
      go : (is_none : Bool) → eqb a 0 ≡ is_none → ◌≡◌ {A = ℕ} (cond is_none 1 0) 0
      go true is = absurd (omega (arith, some, eqb-true a 0 is))
      go false is = refl
  stored_some false a some = refl

  no_store : (own : ActorState) (act : Act) (x a e : ℕ) → IsMachineStep run own (logged act x a)
      → store_mark e 0 (logged act x a) ≡ 0
  no_store own (Relaxes i) x a e m = stored_some (eqb i e) a (omega (arith, m.answers, m.carries))
  no_store own (Shrinks i) x a e m = stored_some (eqb i e) a (omega (arith, m.answers, m.carries))
  no_store own _ x a e m = refl

  no_stores : (own : ActorState) (log : List LogEntry) (e : ℕ) → AreMachineSteps run own log → stores e 0 log ≡ 0
  no_stores own [] e m = refl
  no_stores own (n ∷ ns) e m =
      let first = no_store own n.act n.carried n.answer e m.0 in
      omega (arith, first, no_stores (after_answer own n.act n.answer) ns e m.1)

  module _ (start : HasTrueStart run) where
    record HasPositiveCopy (own : ActorState) : Type 0 where
      each : length own.copy ≡ length run.rows
      positive : All (λ x. 1 ≤ x) own.copy

    -- A number that an actor with a positive copy offers is a bound.
    raised : (own : ActorState) (act : Act) (x a c : ℕ) → IsMachineStep run own (logged act x a) → HasPositiveCopy own
        → 0 < offer is_raise c (logged act x a) → IsLowerBoundOf (rows_of run) c
    raised own Raises x a c m copy some =
        subst (IsLowerBoundOf (rows_of run)) (sym m.carries ∙ offered x c some)
        (low_is_lower_bound (rows_of run) start.scaled run.ranks own.copy start.ranking copy.each copy.positive)
    raised own _ x a c m copy some = absurd (omega (arith, some))

    lowered : (own : ActorState) (act : Act) (x a c : ℕ) → IsMachineStep run own (logged act x a) → HasPositiveCopy own
        → 0 < offer is_lower c (logged act x a) → IsUpperBoundOf (rows_of run) c
    lowered own Lowers x a c m copy some =
        subst (IsUpperBoundOf (rows_of run)) (sym m.carries ∙ offered x c some)
        (high_is_upper_bound (rows_of run) start.scaled run.ranks own.copy start.ranking copy.each copy.positive)
    lowered own _ x a c m copy some = absurd (omega (arith, some))

    module _ (places : List Place) (machine : Each IsMachineLog places) where
      -- No entry ever had the value 0.
      never_none : (e : ℕ) → e < length run.rows → (ps : List Place) → Each IsMachineLog ps → total (had run e 0) ps ≡ 0
      never_none e inside [] h = refl
      never_none e inside (p ∷ ps) h =
          let first = All-get_or (λ x. 1 ≤ x) run.start e 0 (omega (arith, inside, start.each))
          start.positive in
          let began : ◌≡◌ {A = ℕ} (cond (eqb (slice_index run.start e) 0) 1 0) 0 =
          stored_some true (slice_index run.start e) first in
          let none : cond (eqb (slice_index run.start e) 0) 1 0 + stores e 0 p.log ≡ 0 =
          omega (arith, began, no_stores (kept run []) p.log e h.0) in
          let had_none = ap (λ (k : ℕ). in_part e p.part * k) none in
          omega (arith, had_none, never_none e inside ps h.1)

      some_loaded : (e a : ℕ) → e < length run.rows → 0 < total (had run e a) places → 1 ≤ a
      some_loaded e zero inside h = absurd (omega (arith, h, never_none e inside places machine))
      some_loaded e (suc a) inside h = omega arith

      abbrev IsPossible : Place → Type 0
      IsPossible p = IsPossibleLog run (λ g. total g places) p

      abbrev FitsIn : Place → List LogEntry → LogEntry → Type 0
      FitsIn p = Fits run (λ g. total g places) p.log p.part

      -- So a copy stays positive.
      some_after : (p : Place) (before : List LogEntry) (own : ActorState) (act : Act) (x a : ℕ)
          → FitsIn p before (logged act x a) → IsMachineStep run own (logged act x a) → HasPositiveCopy own
          → All (λ y. 1 ≤ y) (after_answer own act a).copy
      some_after p before own (Loads e) x a f m copy = elim (cases_lt e (length own.copy)) [
        | inl inside ↦ All-set (λ y. 1 ≤ y) own.copy e a
            (some_loaded e a (omega (arith, inside, copy.each)) f.0) copy.positive
        | inr past ↦ subst (All (λ y. 1 ≤ y)) (sym (set_past own.copy e a past)) copy.positive
      ]
      some_after p before own (Relaxes i) x a f m copy =
          All-set (λ y. 1 ≤ y) own.copy i a (omega (arith, m.answers, m.carries)) copy.positive
      some_after p before own (Shrinks i) x a f m copy =
          All-set (λ y. 1 ≤ y) own.copy i a (omega (arith, m.answers, m.carries)) copy.positive
      some_after p before own _ x a f m copy = copy.positive

      copy_after : (p : Place) (before : List LogEntry) (own : ActorState) (n : LogEntry) → FitsIn p before n
          → IsMachineStep run own n → HasPositiveCopy own → HasPositiveCopy (after_answer own n.act n.answer)
      copy_after p before own n f m copy = record {
        each = length-after own n.act n.answer ∙ copy.each;
        positive = some_after p before own n.act n.carried n.answer f m copy;
      }

      record CertifiesBounds (log : List LogEntry) : Type 0 where
        low : (c : ℕ) → 0 < times is_raise c log → IsLowerBoundOf (rows_of run) c
        high : (c : ℕ) → 0 < times is_lower c log → IsUpperBoundOf (rows_of run) c

      certified : (p : Place) (before log : List LogEntry) → AreMachineSteps run (kept run before) log
          → EachFits (FitsIn p) before log → HasPositiveCopy (kept run before) → CertifiesBounds log
      certified p before [] m f copy =
          record { low = λ c h. absurd (omega (arith, h)); high = λ c h. absurd (omega (arith, h)) }
      certified p before (n ∷ ns) m f copy =
          let own = kept run before in
          let kept_is = sym (kept-snoc run before n) in
          let rest = certified p (before ++ n ∷ []) ns
          (subst (λ (s : ActorState). AreMachineSteps run s ns) kept_is m.1) f.1
          (subst HasPositiveCopy kept_is (copy_after p before own n f.0 m.0 copy)) in
          record {
            low = λ c h. elim (cases_lt 0 (times is_raise c ns)) [
              | inl later ↦ rest.low c later
              | inr none ↦ raised own n.act n.carried n.answer c m.0 copy (omega (arith, h, none))
            ];
            high = λ c h. elim (cases_lt 0 (times is_lower c ns)) [
              | inl later ↦ rest.high c later
              | inr none ↦ lowered own n.act n.carried n.answer c m.0 copy (omega (arith, h, none))
            ];
          }

      of_place : (p : Place) → IsMachineLog p → IsPossible p → CertifiesBounds p.log
      of_place p m f = certified p [] p.log m f
          (record { each = start.each; positive = start.positive })

      low_of_places : (c : ℕ) (ps : List Place) → Each IsMachineLog ps → Each IsPossible ps → IsCertifiedLow ps c
          → IsLowerBoundOf (rows_of run) c
      low_of_places c [] m f h = absurd (omega (arith, h))
      low_of_places c (p ∷ ps) m f h = elim (cases_lt 0 (times is_raise c p.log)) [
        | inl here ↦ (of_place p m.0 f.0).low c here
        | inr none ↦ low_of_places c ps m.1 f.1 (omega (arith, h, none))
      ]

      high_of_places : (c : ℕ) (ps : List Place) → Each IsMachineLog ps → Each IsPossible ps → IsCertifiedHigh ps c
          → IsUpperBoundOf (rows_of run) c
      high_of_places c [] m f h = absurd (omega (arith, h))
      high_of_places c (p ∷ ps) m f h = elim (cases_lt 0 (times is_lower c p.log)) [
        | inl here ↦ (of_place p m.0 f.0).high c here
        | inr none ↦ high_of_places c ps m.1 f.1 (omega (arith, h, none))
      ]

-- Ends that are initial or were certified in a run enclose.
pub known_ends_enclose : (run : Run) (turns : ℕ) (places : List Place) (low high from to : ℕ) → HasTrueStart run
    → IsRun run turns places low high → HasKnownEnds run places from to → EnclosesRows (rows_of run) from to
known_ends_enclose run turns places low high from to start r ends =
    let machine = Each-more (IsLogOf run turns low high) (IsMachineLog run) (log_steps run turns low high) places
    r.logs in
    record {
      below = elim ends.low_end [
        | inl is ↦ subst (IsLowerBoundOf (rows_of run)) (sym is) start.encloses.below
        | inr c ↦ low_of_places run start places machine from places machine r.answers c
      ];
      above = elim ends.high_end [
        | inl is ↦ subst (IsUpperBoundOf (rows_of run)) (sym is) start.encloses.above
        | inr c ↦ high_of_places run start places machine to places machine r.answers c
      ];
    }

-- The closing bounds are such ends.
pub closing_ends : (run : Run) (turns : ℕ) (places : List Place) (low high : ℕ) → IsRun run turns places low high
    → HasKnownEnds run places low high
closing_ends run turns places low high r = record { low_end = r.greatest.source; high_end = r.least.source }
