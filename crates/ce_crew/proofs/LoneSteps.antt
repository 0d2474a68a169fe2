-- A log with nobody else: each step is determined by its act and by the log before it.
use Rattle.std.proofs.Common.{◌≡◌, ℕ, ◌+◌, ◌*◌, ◌<◌, ◌≤◌, inl, inr, Bool, true, false, cond, eqb, List, [], ◌∷◌}
use Rattle.std.proofs.Common.{◌++◌}
use Rattle.std.proofs.Common.{slice_index, refl, sym, ap, ◌∙◌, subst, arith, append_assoc, append-nil}
use Rattle.std.proofs.lemmas.Bool.{false≢true}
use mathlib.Core.Logic.{dite}
use native.Mathlib.Decide.{ℕ_discrete}
use Rattle.ce_core.specs.Machine.{carried}
use Rattle.ce_rows.specs.Actors.{ActorState}
use Rattle.ce_rows.specs.declared.act.Act.{Act}
use Rattle.ce_rows.specs.declared.act.Act.TheVariants.{Loads, Relaxes, Shrinks, LoadsLow, LoadsHigh, Raises, Lowers}
use Rattle.ce_rows.specs.declared.act.Act.TheVariants.{LoadsShift, Asks, LoadsStop, Stops}
use Rattle.ce_rows.specs.declared.act.LogEntry.{LogEntry}
use Rattle.ce_words.specs.Invariant.{IsGreatest, IsLeast}
use Rattle.ce_words.specs.Logs.{is_raise, is_lower, is_ask, offer, times, total, last_value, in_part, stores, had}
use Rattle.ce_words.specs.Logs.{EachFits, AnswersUp, AnswersDown}
use Rattle.ce_words.specs.Views.{rows_of, kept, logged}
use Rattle.ce_words.specs.declared.view.Place.{Place}
use Rattle.ce_words.specs.declared.view.Run.{Run}
use Rattle.ce_words.proofs.Logs.{Fits, in_part_le, kept-snoc, times-snoc}
use Rattle.ce_crew.specs.MachineSteps.{acts_of, IsMachineStep, AreMachineSteps}
use Rattle.ce_crew.proofs.BestVectors.{NoneIs}

pub EachFits-split : (P : List LogEntry → LogEntry → Type 0) (before xs ys : List LogEntry)
    → EachFits P before (xs ++ ys) → EachFits P before xs × EachFits P (before ++ xs) ys
EachFits-split P before [] ys h = (tt, subst (λ (l : List LogEntry). EachFits P l ys) (sym (append-nil before)) h)
EachFits-split P before (x ∷ xs) ys h =
    let rest = EachFits-split P (before ++ x ∷ []) xs ys h.1 in
    ((h.0, rest.0), subst (λ (l : List LogEntry). EachFits P l ys) (append_assoc before (x ∷ []) xs) rest.1)

pub one_greatest : (start a b : ℕ) (P : ℕ → Type 0) → IsGreatest start P a → IsGreatest start P b → a ≡ b
one_greatest start a b P h k = let up = least a b h k in let down = least b a k h in omega arith
  where
    least : (c d : ℕ) → IsGreatest start P c → IsGreatest start P d → c ≤ d
    least c d g i = elim g.source [ inl e ↦ (let from = i.from in omega arith) | inr o ↦ i.all c o ]

pub one_least : (start a b : ℕ) (P : ℕ → Type 0) → IsLeast start P a → IsLeast start P b → a ≡ b
one_least start a b P h k = let up = most a b h k in let down = most b a k h in omega arith
  where
    most : (c d : ℕ) → IsLeast start P c → IsLeast start P d → d ≤ c
    most c d g i = elim g.source [ inl e ↦ (let from = i.from in omega arith) | inr o ↦ i.all c o ]

-- an answer where nobody else offers
up_alone : (start seen a : ℕ) (mine theirs offered : ℕ → Type 0) → ((c : ℕ) → mine c → offered c)
    → ((c : ℕ) → offered c → mine c) → ((c : ℕ) → theirs c → ⊥) → AnswersUp start seen mine theirs a
    → IsGreatest start offered a
up_alone start seen a mine theirs offered to from none h = record {
  from = h.from;
  all = λ c o. h.own c (from c o);
  source = elim h.source [ inl e ↦ inl e | inr t ↦ elim t [ inl m ↦ inr (to a m) | inr o ↦ absurd (none a o) ] ];
}

down_alone : (start seen a : ℕ) (mine theirs offered : ℕ → Type 0) → ((c : ℕ) → mine c → offered c)
    → ((c : ℕ) → offered c → mine c) → ((c : ℕ) → theirs c → ⊥) → AnswersDown start seen mine theirs a
    → IsLeast start offered a
down_alone start seen a mine theirs offered to from none h = record {
  from = h.from;
  all = λ c o. h.own c (from c o);
  source = elim h.source [ inl e ↦ inl e | inr t ↦ elim t [ inl m ↦ inr (to a m) | inr o ↦ absurd (none a o) ] ];
}

-- acts on the stop word, whose answers no log determines
abbrev pub is_on_stop : Act → Bool
is_on_stop LoadsStop = true
is_on_stop Stops = true
is_on_stop _ = false

-- A number was offered in a log by steps of a kind, or is offered by the act that carries x.
abbrev pub IsOffered : (Act → Bool) → List LogEntry → Act → ℕ → ℕ → Type 0
IsOffered is before act x c = 0 < times is c before + offer is c (logged act x 0)

module _ (run : Run) where
  -- what an act answers after a log, with nobody else
  abbrev pub IsOnlyAnswer : List LogEntry → Act → ℕ → ℕ → Type 0
  IsOnlyAnswer before (Loads e) x a = a ≡ last_value e (slice_index run.start e) before
  IsOnlyAnswer before (Relaxes e) x a = a ≡ x
  IsOnlyAnswer before (Shrinks e) x a = a ≡ x
  IsOnlyAnswer before LoadsLow x a = IsGreatest run.initial.low (IsOffered is_raise before LoadsLow x) a
  IsOnlyAnswer before Raises x a = IsGreatest run.initial.low (IsOffered is_raise before Raises x) a
  IsOnlyAnswer before LoadsHigh x a = IsLeast run.initial.high (IsOffered is_lower before LoadsHigh x) a
  IsOnlyAnswer before Lowers x a = IsLeast run.initial.high (IsOffered is_lower before Lowers x) a
  IsOnlyAnswer before LoadsShift x a = IsGreatest 0 (IsOffered is_ask before LoadsShift x) a
  IsOnlyAnswer before Asks x a = IsGreatest 0 (IsOffered is_ask before Asks x) a
  IsOnlyAnswer before LoadsStop x a = Unit {0}
  IsOnlyAnswer before Stops x a = Unit {0}

  pub record IsLoneStep (before : List LogEntry) (step : LogEntry) : Type 0 where
    pub carries : step.carried ≡ carried (rows_of run) run.ranks (kept run before) step.act
    pub answers : IsOnlyAnswer before step.act step.carried step.answer

  -- a step fits the log of the one place there is
  abbrev pub FitsAlone : Place → List LogEntry → LogEntry → Type 0
  FitsAlone q = Fits run (λ g. total g (q ∷ [])) q.log q.part

  module _ (q : Place) (before : List LogEntry) where
    no_others : (is : Act → Bool) (c : ℕ) → times is c q.log < total (λ (p : Place). times is c p.log) (q ∷ []) → ⊥
    no_others is c less = omega (arith, less)

    grown : (is : Act → Bool) (act : Act) (x a c : ℕ)
        → times is c (before ++ logged act x a ∷ []) ≡ times is c before + offer is c (logged act x 0)
    grown is act x a c = times-snoc is c before (logged act x a)

    -- an entry that had a value is the place's own
    owned : (e a : ℕ) → 0 < total (had run e a) (q ∷ []) → in_part e q.part ≡ 1
    owned e a h = dite (ℕ_discrete (in_part e q.part) 0)
        (λ z. let none = ap (λ (k : ℕ). k * values) z in absurd (omega (arith, h, none)))
        (λ some. let most = in_part_le e q.part in omega arith)
      where
        values : ℕ
        values = cond (eqb (slice_index run.start e) a) 1 0 + stores e a q.log

    -- an answer of a word that only rises, and of one that only falls
    pub only_greatest : (is : Act → Bool) (act : Act) (start seen x a : ℕ)
        → AnswersUp start seen (λ c. 0 < times is c (before ++ logged act x a ∷ []))
        (λ c. times is c q.log < total (λ (p : Place). times is c p.log) (q ∷ [])) a
        → IsGreatest start (IsOffered is before act x) a
    only_greatest is act start seen x a h = up_alone start seen a _ _ (IsOffered is before act x)
        (λ c l. subst (λ (k : ℕ). 0 < k) (grown is act x a c) l)
        (λ c l. subst (λ (k : ℕ). 0 < k) (sym (grown is act x a c)) l) (no_others is) h

    only_least : (is : Act → Bool) (act : Act) (start seen x a : ℕ)
        → AnswersDown start seen (λ c. 0 < times is c (before ++ logged act x a ∷ []))
        (λ c. times is c q.log < total (λ (p : Place). times is c p.log) (q ∷ [])) a
        → IsLeast start (IsOffered is before act x) a
    only_least is act start seen x a h = down_alone start seen a _ _ (IsOffered is before act x)
        (λ c l. subst (λ (k : ℕ). 0 < k) (grown is act x a c) l)
        (λ c l. subst (λ (k : ℕ). 0 < k) (sym (grown is act x a c)) l) (no_others is) h

    only : (own : ActorState) (act : Act) (x a : ℕ) → FitsAlone q before (logged act x a)
        → IsMachineStep run own (logged act x a) → IsOnlyAnswer before act x a
    only own (Loads e) x a h m = h.1 (owned e a h.0)
    only own (Relaxes e) x a h m = m.answers
    only own (Shrinks e) x a h m = m.answers
    only own LoadsLow x a h m = only_greatest is_raise LoadsLow run.initial.low (kept run before).low x a h
    only own Raises x a h m = only_greatest is_raise Raises run.initial.low (kept run before).low x a h
    only own LoadsHigh x a h m = only_least is_lower LoadsHigh run.initial.high (kept run before).high x a h
    only own Lowers x a h m = only_least is_lower Lowers run.initial.high (kept run before).high x a h
    only own LoadsShift x a h m = only_greatest is_ask LoadsShift 0 _ x a h
    only own Asks x a h m = only_greatest is_ask Asks 0 _ x a h
    only own LoadsStop x a h m = tt
    only own Stops x a h m = tt

  -- Steps of the machine that fit the log of the one place there is are determined.
  pub lone_steps : (q : Place) (before steps : List LogEntry) → AreMachineSteps run (kept run before) steps
      → EachFits (FitsAlone q) before steps → EachFits IsLoneStep before steps
  lone_steps q before [] machine fits = tt
  lone_steps q before (n ∷ ns) machine fits =
      let next = subst (λ (own : ActorState). AreMachineSteps run own ns) (sym (kept-snoc run before n)) machine.1 in (
        record {
          carries = machine.0.carries;
          answers = only q before (kept run before) n.act n.carried n.answer fits.0 machine.0;
        },
        lone_steps q (before ++ n ∷ []) ns next fits.1,
      )

  one_answer : (before : List LogEntry) (act : Act) (x a b : ℕ) → is_on_stop act ≡ false
      → IsOnlyAnswer before act x a → IsOnlyAnswer before act x b → a ≡ b
  one_answer before (Loads e) x a b off h k = h ∙ sym k
  one_answer before (Relaxes e) x a b off h k = h ∙ sym k
  one_answer before (Shrinks e) x a b off h k = h ∙ sym k
  one_answer before LoadsLow x a b off h k = one_greatest run.initial.low a b _ h k
  one_answer before Raises x a b off h k = one_greatest run.initial.low a b _ h k
  one_answer before LoadsHigh x a b off h k = one_least run.initial.high a b _ h k
  one_answer before Lowers x a b off h k = one_least run.initial.high a b _ h k
  one_answer before LoadsShift x a b off h k = one_greatest 0 a b _ h k
  one_answer before Asks x a b off h k = one_greatest 0 a b _ h k
  one_answer before LoadsStop x a b off h k = absurd (false≢true (sym off))
  one_answer before Stops x a b off h k = absurd (false≢true (sym off))

  -- Two steps that do the same after the same log are equal.
  one_step : (before : List LogEntry) (m n : LogEntry) → m.act ≡ n.act → is_on_stop m.act ≡ false
      → IsLoneStep before m → IsLoneStep before n → m ≡ n
  one_step before m n same off h k =
      let carry : m.carried ≡ n.carried =
      h.carries ∙ (ap (λ (act : Act). carried (rows_of run) run.ranks (kept run before) act) same ∙ sym k.carries) in
      let there = subst (λ (act : Act). IsOnlyAnswer before act n.carried n.answer) (sym same) k.answers in
      let here = subst (λ (x : ℕ). IsOnlyAnswer before m.act x n.answer) (sym carry) there in
      let answer = one_answer before m.act m.carried m.answer n.answer off h.answers here in
      (λ i. record { act = same i; carried = carry i; answer = answer i })

  -- So are two lists of steps.
  pub same_steps : (before xs ys : List LogEntry) → acts_of xs ≡ acts_of ys → NoneIs is_on_stop (acts_of xs)
      → EachFits IsLoneStep before xs → EachFits IsLoneStep before ys → xs ≡ ys
  same_steps before [] [] acts off h k = refl
  same_steps before [] (y ∷ ys) acts off h k = absurd (cc)
  same_steps before (x ∷ xs) [] acts off h k = absurd (cc)
  same_steps before (x ∷ xs) (y ∷ ys) acts off h k =
      let first = one_step before x y (cc) off.0 h.0 k.0 in
      let rest = subst (λ (n : LogEntry). EachFits IsLoneStep (before ++ n ∷ []) ys) (sym first) k.1 in
      let later = same_steps (before ++ x ∷ []) xs ys (cc) off.1 h.1 rest in
      (λ i. first i ∷ later i)
