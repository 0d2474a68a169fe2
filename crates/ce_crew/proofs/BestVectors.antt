-- The best vectors of a log, as the log grows.
use Rattle.std.proofs.Common.{◌≡◌, ℕ, zero, suc, ◌+◌, ◌<◌, ◌≤◌, ◌⊎◌, inl, inr, Bool, true, false, cond, eqb, List, []}
use Rattle.std.proofs.Common.{◌∷◌, ◌++◌, sym, refl, ap, ◌∙◌, subst, arith, append_assoc}
use Rattle.std.proofs.lemmas.Bool.{cases_eq, eqb-true}
use Rattle.ce_rows.specs.declared.act.Act.{Act}
use Rattle.ce_rows.specs.declared.act.Act.TheVariants.{Raises, Lowers}
use Rattle.ce_rows.specs.declared.act.LogEntry.{LogEntry}
use Rattle.ce_words.specs.Logs.{is_raise, is_lower, times, offer}
use Rattle.ce_words.specs.Views.{kept, logged}
use Rattle.ce_words.specs.declared.view.Run.{Run}
use Rattle.ce_crew.specs.MachineSteps.{acts_of}
use Rattle.ce_cert.specs.declared.ends.Bounds.{Bounds}
use Rattle.ce_rows.specs.Actors.{ActorState}
use Rattle.ce_crew.specs.Gains.{EndsOffering}
use Rattle.ce_crew.proofs.Grown.{actor_after-append}
use Rattle.ce_crew.specs.Best.{CertifiesLow, CertifiesHigh, IsFirstLow, IsFirstHigh, IsBestLow, IsBestHigh}

-- No act is of a kind.
abbrev pub NoneIs : (Act → Bool) → List Act → Type 0
NoneIs is [] = Unit {0}
NoneIs is (act ∷ acts) = (is act ≡ false) × NoneIs is acts

offer_none : (is : Act → Bool) (c : ℕ) (n : LogEntry) → is n.act ≡ false → offer is c n ≡ 0
offer_none is c n e = ap (λ (b : Bool). cond b (cond (eqb n.carried c) 1 0) 0) e

pub times-append : (is : Act → Bool) (c : ℕ) (xs ys : List LogEntry)
    → times is c (xs ++ ys) ≡ times is c xs + times is c ys
times-append is c [] ys = omega arith
times-append is c (x ∷ xs) ys = let rest = times-append is c xs ys in omega (arith, rest)

pub times_none : (is : Act → Bool) (c : ℕ) (es : List LogEntry) → NoneIs is (acts_of es) → times is c es ≡ 0
times_none is c [] none = refl
times_none is c (e ∷ es) none =
    let rest = times_none is c es none.1 in let here = offer_none is c e none.0 in omega (arith, rest, here)

-- what one more step of a kind carries
pub offered : (c d : ℕ) → 0 < cond (eqb c d) 1 0 → c ≡ d
offered c d h = go (eqb c d) refl h
  where
    go : (b : Bool) → eqb c d ≡ b → 0 < cond b 1 0 → c ≡ d
    go true e k = eqb-true c d e
    go false e k = absurd (omega (arith, k))

module _ (run : Run) (initial : ℕ) (beginning : List ℕ) (log : List LogEntry) (low : ℕ) (vector : List ℕ)
    (best : IsBestLow run initial beginning log low vector) where
  -- steps that raise nothing
  pub best_low_kept : (es : List LogEntry) → ((c : ℕ) → times is_raise c es ≡ 0)
      → IsBestLow run initial beginning (log ++ es) low vector
  best_low_kept es none = record {
    least = best.least;
    greatest = λ c h. best.greatest c (omega (arith, h, times-append is_raise c log es, none c));
    source = source best.source;
  }
    where
      source : ((low ≡ initial) × (vector ≡ beginning)) ⊎ ((initial < low) × IsFirstLow run log low vector)
          → ((low ≡ initial) × (vector ≡ beginning)) ⊎ ((initial < low) × IsFirstLow run (log ++ es) low vector)
      source (inl same) = inl same
      source (inr first) = inr (
        first.0,
        record {
          before = first.1.before;
          answer = first.1.answer;
          after = first.1.after ++ es;
          log_is = ap (λ (l : List LogEntry). l ++ es) first.1.log_is ∙ append_assoc first.1.before (logged Raises
              low first.1.answer ∷ first.1.after) es;
          less = first.1.less;
          vector_is = first.1.vector_is;
        },
      )

  raised : (number answer c : ℕ) → CertifiesLow c (log ++ logged Raises number answer ∷ [])
      → (number ≡ c) ⊎ CertifiesLow c log
  raised number answer c h = elim (cases_eq number c) [
    | inl is ↦ inl is
    | inr other ↦ inr (elim (cases_zero (cond (eqb number c) 1 0)) [
      | inl none ↦ omega (arith, h, times-append is_raise c log (logged Raises number answer ∷ []), none)
      | inr some ↦ absurd (other (offered number c some))
    ])
  ]
    where
      cases_zero : (n : ℕ) → (n ≡ 0) ⊎ (0 < n)
      cases_zero zero = inl refl
      cases_zero (suc n) = inr (omega arith)

  -- a raise that is no better
  pub best_low_same : (number answer : ℕ) → number ≤ low
      → IsBestLow run initial beginning (log ++ logged Raises number answer ∷ []) low vector
  best_low_same number answer worse =
      let es = logged Raises number answer ∷ [] in
      record {
        least = best.least;
        greatest = λ c h. elim (raised number answer c h) [ inl is ↦ omega arith | inr old ↦ best.greatest c old ];
        source = source best.source;
      }
    where
      source : ((low ≡ initial) × (vector ≡ beginning)) ⊎ ((initial < low) × IsFirstLow run log low vector)
          → ((low ≡ initial) × (vector ≡ beginning)) ⊎ ((initial < low) × IsFirstLow run
          (log ++ logged Raises number answer ∷ []) low vector)
      source (inl same) = inl same
      source (inr first) = inr (
        first.0,
        record {
          before = first.1.before;
          answer = first.1.answer;
          after = first.1.after ++ logged Raises number answer ∷ [];
          log_is = ap (λ (l : List LogEntry). l ++ logged Raises number answer ∷ []) first.1.log_is
              ∙ append_assoc first.1.before (logged Raises low first.1.answer ∷ first.1.after)
              (logged Raises number answer ∷ []);
          less = first.1.less;
          vector_is = first.1.vector_is;
        },
      )

  -- a raise that is better
  pub best_low_new : (number answer : ℕ) → low < number
      → IsBestLow run initial beginning (log ++ logged Raises number answer ∷ []) number (kept run log).copy
  best_low_new number answer better = record {
    least = let l = best.least in omega arith;
    greatest = λ c h. elim (raised number answer c h) [
      | inl is ↦ omega arith
      | inr old ↦ let g = best.greatest c old
          in omega arith
    ];
    source = inr (
      let l = best.least in omega arith,
      record {
        before = log;
        answer = answer;
        after = [];
        log_is = refl;
        less = λ c h. let g = best.greatest c h in omega arith;
        vector_is = refl;
      },
    );
  }

module _ (run : Run) (initial : ℕ) (beginning : List ℕ) (log : List LogEntry) (high : ℕ) (vector : List ℕ)
    (best : IsBestHigh run initial beginning log high vector) where
  pub best_high_kept : (es : List LogEntry) → ((c : ℕ) → times is_lower c es ≡ 0)
      → IsBestHigh run initial beginning (log ++ es) high vector
  best_high_kept es none = record {
    most = best.most;
    least = λ c h. best.least c (omega (arith, h, times-append is_lower c log es, none c));
    source = source best.source;
  }
    where
      source : ((high ≡ initial) × (vector ≡ beginning)) ⊎ ((high < initial) × IsFirstHigh run log high vector)
          → ((high ≡ initial) × (vector ≡ beginning)) ⊎ ((high < initial) × IsFirstHigh run (log ++ es) high vector)
      source (inl same) = inl same
      source (inr first) = inr (
        first.0,
        record {
          before = first.1.before;
          answer = first.1.answer;
          after = first.1.after ++ es;
          log_is = ap (λ (l : List LogEntry). l ++ es) first.1.log_is ∙ append_assoc first.1.before (logged Lowers
              high first.1.answer ∷ first.1.after) es;
          more = first.1.more;
          vector_is = first.1.vector_is;
        },
      )

  lowered : (number answer c : ℕ) → CertifiesHigh c (log ++ logged Lowers number answer ∷ [])
      → (number ≡ c) ⊎ CertifiesHigh c log
  lowered number answer c h = elim (cases_eq number c) [
    | inl is ↦ inl is
    | inr other ↦ inr (elim (cases_zero (cond (eqb number c) 1 0)) [
      | inl none ↦ omega (arith, h, times-append is_lower c log (logged Lowers number answer ∷ []), none)
      | inr some ↦ absurd (other (offered number c some))
    ])
  ]
    where
      cases_zero : (n : ℕ) → (n ≡ 0) ⊎ (0 < n)
      cases_zero zero = inl refl
      cases_zero (suc n) = inr (omega arith)

  pub best_high_same : (number answer : ℕ) → high ≤ number
      → IsBestHigh run initial beginning (log ++ logged Lowers number answer ∷ []) high vector
  best_high_same number answer worse = record {
    most = best.most;
    least = λ c h. elim (lowered number answer c h) [ inl is ↦ omega arith | inr old ↦ best.least c old ];
    source = source best.source;
  }
    where
      source : ((high ≡ initial) × (vector ≡ beginning)) ⊎ ((high < initial) × IsFirstHigh run log high vector)
          → ((high ≡ initial) × (vector ≡ beginning)) ⊎ ((high < initial) × IsFirstHigh run
          (log ++ logged Lowers number answer ∷ []) high vector)
      source (inl same) = inl same
      source (inr first) = inr (
        first.0,
        record {
          before = first.1.before;
          answer = first.1.answer;
          after = first.1.after ++ logged Lowers number answer ∷ [];
          log_is = ap (λ (l : List LogEntry). l ++ logged Lowers number answer ∷ []) first.1.log_is
              ∙ append_assoc first.1.before (logged Lowers high first.1.answer ∷ first.1.after)
              (logged Lowers number answer ∷ []);
          more = first.1.more;
          vector_is = first.1.vector_is;
        },
      )

  pub best_high_new : (number answer : ℕ) → number < high
      → IsBestHigh run initial beginning (log ++ logged Lowers number answer ∷ []) number (kept run log).copy
  best_high_new number answer better = record {
    most = let l = best.most in omega arith;
    least = λ c h. elim (lowered number answer c h) [
      | inl is ↦ omega arith
      | inr old ↦ let g = best.least c old
          in omega arith
    ];
    source = inr (
      let l = best.most in omega arith,
      record {
        before = log;
        answer = answer;
        after = [];
        log_is = refl;
        more = λ c h. let g = best.least c h in omega arith;
        vector_is = refl;
      },
    );
  }

-- A raise leaves the copy.
copy_after_raise : (run : Run) (log : List LogEntry) (number answer : ℕ)
    → (kept run (log ++ logged Raises number answer ∷ [])).copy ≡ (kept run log).copy
copy_after_raise run log number answer =
    ap (λ (own : ActorState). own.copy) (actor_after-append _ log (logged Raises number answer ∷ []))

module _ (run : Run) (b : Bounds) (copy : List ℕ) (log log_after : List LogEntry)
    (o : EndsOffering run b copy log log_after) (initial : ℕ) (beginning : List ℕ) where
  abbrev mid : List LogEntry
  mid = log ++ o.before

  abbrev raise : LogEntry
  raise = logged Raises b.low o.raised

  abbrev lower : LogEntry
  lower = logged Lowers b.high o.lowered

  low_to_end : (low : ℕ) (vector : List ℕ) → IsBestLow run initial beginning (mid ++ raise ∷ []) low vector
      → IsBestLow run initial beginning log_after low vector
  low_to_end low vector best =
      subst (λ (l : List LogEntry). IsBestLow run initial beginning l low vector) (sym o.log_is)
      (best_low_kept run initial beginning (mid ++ raise ∷ []) low vector best (lower ∷ []) (λ c. refl))

  pub low_offered_new : (low : ℕ) (vector : List ℕ) → low < b.low → IsBestLow run initial beginning log low vector
      → IsBestLow run initial beginning log_after b.low copy
  low_offered_new low vector better best =
      let here = best_low_new run initial beginning mid low vector (best_low_kept run initial beginning log low
      vector best o.before o.no_low) b.low o.raised better in
      subst (λ (v : List ℕ). IsBestLow run initial beginning log_after b.low v) (sym o.copy_is)
      (low_to_end b.low (kept run mid).copy here)

  pub low_offered_same : (low : ℕ) (vector : List ℕ) → b.low ≤ low → IsBestLow run initial beginning log low vector
      → IsBestLow run initial beginning log_after low vector
  low_offered_same low vector worse best =
      low_to_end low vector (best_low_same run initial beginning mid low vector
      (best_low_kept run initial beginning log low vector best o.before o.no_low) b.low o.raised worse)

  high_to_mid : (high : ℕ) (vector : List ℕ) → IsBestHigh run initial beginning log high vector
      → IsBestHigh run initial beginning (mid ++ raise ∷ []) high vector
  high_to_mid high vector best =
      best_high_kept run initial beginning mid high vector (best_high_kept run initial beginning log high vector
      best o.before o.no_high) (raise ∷ []) (λ c. refl)

  pub high_offered_new : (high : ℕ) (vector : List ℕ) → b.high < high → IsBestHigh run initial beginning log high vector
      → IsBestHigh run initial beginning log_after b.high copy
  high_offered_new high vector better best =
      let here = best_high_new run initial beginning (mid ++ raise ∷ []) high vector (high_to_mid high vector best)
      b.high o.lowered better in
      let same : (kept run (mid ++ raise ∷ [])).copy ≡ copy = copy_after_raise run mid b.low o.raised ∙ sym o.copy_is in
      subst (λ (l : List LogEntry). IsBestHigh run initial beginning l b.high copy) (sym o.log_is)
      (subst (λ (v : List ℕ). IsBestHigh run initial beginning ((mid ++ raise ∷ []) ++ lower ∷ []) b.high v) same here)

  pub high_offered_same : (high : ℕ) (vector : List ℕ) → high ≤ b.high
      → IsBestHigh run initial beginning log high vector → IsBestHigh run initial beginning log_after high vector
  high_offered_same high vector worse best =
      subst (λ (l : List LogEntry). IsBestHigh run initial beginning l high vector) (sym o.log_is)
      (best_high_same run initial beginning (mid ++ raise ∷ []) high vector (high_to_mid high vector best) b.high
      o.lowered worse)
