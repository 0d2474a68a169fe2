-- Without turns nothing is certified.
use Rattle.std.proofs.Common.{◌≡◌, ℕ, ◌⊎◌, inl, inr, List, [], ◌∷◌, refl, ap, arith}
use Rattle.ce_words.specs.Logs.{is_raise, is_lower, times, total, Each}
use Rattle.ce_words.specs.declared.view.Place.{Place}
use Rattle.ce_words.specs.declared.view.Run.{Run}
use Rattle.ce_solve.specs.ChaoticRun.{IsLogOf, IsRun, IsCertifiedLow, IsCertifiedHigh}
use Rattle.ce_solve.specs.ClosingVectors.{IsClosingLow, IsClosingHigh}

module _ (run : Run) (low high : ℕ) where
  no_low : (c : ℕ) (ps : List Place) → Each (IsLogOf run 0 low high) ps
      → total (λ (p : Place). times is_raise c p.log) ps ≡ 0
  no_low c [] logs = refl
  no_low c (p ∷ ps) logs = let rest = no_low c ps logs.1 in let here = one logs.0 in omega (arith, rest, here)
    where
      one : IsLogOf run 0 low high p → times is_raise c p.log ≡ 0
      one (inl t) = ap (times is_raise c) t.1.0
      one (inr t) = absurd (omega (arith, t.1))

  no_high : (c : ℕ) (ps : List Place) → Each (IsLogOf run 0 low high) ps
      → total (λ (p : Place). times is_lower c p.log) ps ≡ 0
  no_high c [] logs = refl
  no_high c (p ∷ ps) logs = let rest = no_high c ps logs.1 in let here = one logs.0 in omega (arith, rest, here)
    where
      one : IsLogOf run 0 low high p → times is_lower c p.log ≡ 0
      one (inl t) = ap (times is_lower c) t.1.0
      one (inr t) = absurd (omega (arith, t.1))

  module _ (places : List Place) (r : IsRun run 0 places low high) where
    pub low_stays : low ≡ run.initial.low
    low_stays = go r.greatest.source
      where
        go : (low ≡ run.initial.low) ⊎ IsCertifiedLow places low → low ≡ run.initial.low
        go (inl is) = is
        go (inr c) = absurd (omega (arith, c, no_low low places r.logs))

    pub high_stays : high ≡ run.initial.high
    high_stays = go r.least.source
      where
        go : (high ≡ run.initial.high) ⊎ IsCertifiedHigh places high → high ≡ run.initial.high
        go (inl is) = is
        go (inr c) = absurd (omega (arith, c, no_high high places r.logs))

    pub low_vector_stays : (beginning vector : List ℕ) → IsClosingLow run run.initial.low beginning places low vector
        → vector ≡ beginning
    low_vector_stays beginning vector k =
        elim k.source [ inl same ↦ same.1 | inr more ↦ absurd (let a = more.0 in let b = low_stays in omega arith) ]

    pub high_vector_stays : (beginning vector : List ℕ)
        → IsClosingHigh run run.initial.high beginning places high vector → vector ≡ beginning
    high_vector_stays beginning vector k =
        elim k.source [ inl same ↦ same.1 | inr more ↦ absurd (let a = more.0 in let b = high_stays in omega arith) ]
