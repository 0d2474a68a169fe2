-- The best ends that were joined are the closing bounds, and a certificate.
use Rattle.std.proofs.Common.{◌≡◌, ℕ, zero, suc, ◌+◌, ◌*◌, ◌^◌, ◌<◌, ◌≤◌, ◌⊎◌, inl, inr, Bool, cond, eqb, eq-eqb}
use Rattle.std.proofs.Common.{List, [], ◌∷◌, ◌++◌, refl, sym, ap, subst, arith}
use Rattle.ce_cert.specs.Certificate.{Evidence, IsCertificate, IsPositive}
use Rattle.ce_cert.specs.Vectors.{IsVectorOf}
use Rattle.std.proofs.lemmas.List.Elements.{All-weaker}
use Rattle.ce_rows.specs.Scale.{IsExponent}
use Rattle.ce_rows.specs.declared.act.Act.TheVariants.{Raises, Lowers}
use Rattle.ce_words.specs.Invariant.{IsGreatest, IsLeast}
use Rattle.ce_words.specs.Logs.{is_raise, is_lower, times, total, Each}
use Rattle.ce_words.specs.Views.{rows_of, logged}
use Rattle.ce_words.specs.declared.view.Place.{Place}
use Rattle.ce_words.specs.declared.view.Run.{Run}
use Rattle.ce_crew.specs.Best.{CertifiesLow, CertifiesHigh}
use Rattle.ce_crew.specs.Gains.{IsRunStart}
use Rattle.ce_crew.specs.declared.room.WorkEnd.{WorkEnd}
use Rattle.ce_crew.proofs.BestVectors.{times-append}
use Rattle.ce_solve.specs.ActorsInside.{AreEndsOf}
use Rattle.ce_solve.specs.ChaoticRun.{IsCertifiedLow, IsCertifiedHigh}
use Rattle.ce_solve.specs.ClosingVectors.{IsClosingLow, IsClosingHigh, IsFirstLowAmong, IsFirstHighAmong}

total-append : (g : Place → ℕ) (xs ys : List Place) → total g (xs ++ ys) ≡ total g xs + total g ys
total-append g [] ys = omega arith
total-append g (x ∷ xs) ys = let rest = total-append g xs ys in omega (arith, rest)

zero_or_more : (n : ℕ) → (n ≡ 0) ⊎ (0 < n)
zero_or_more zero = inl refl
zero_or_more (suc n) = inr (omega arith)

-- A number that some log offers is no better than what all logs' numbers are at most.
offered_at_most : (low c : ℕ) (ps : List Place) → Each (λ (p : Place). (d : ℕ) → CertifiesLow d p.log → d ≤ low) ps
    → IsCertifiedLow ps c → c ≤ low
offered_at_most low c [] each h = absurd (omega (arith, h))
offered_at_most low c (p ∷ ps) each h = elim (zero_or_more (times is_raise c p.log)) [
  | inl none ↦ offered_at_most low c ps each.1 (omega (arith, h, none))
  | inr here ↦ each.0 c here
]

offered_at_least : (high c : ℕ) (ps : List Place) → Each (λ (p : Place). (d : ℕ) → CertifiesHigh d p.log → high ≤ d) ps
    → IsCertifiedHigh ps c → high ≤ c
offered_at_least high c [] each h = absurd (omega (arith, h))
offered_at_least high c (p ∷ ps) each h = elim (zero_or_more (times is_lower c p.log)) [
  | inl none ↦ offered_at_least high c ps each.1 (omega (arith, h, none))
  | inr here ↦ each.0 c here
]

pub one_offer : (c : ℕ) → ◌≡◌ {A = ℕ} (cond (eqb c c) 1 0) 1
one_offer c = let one : Bool → ℕ = λ b. cond b 1 0 in ap one (eq-eqb c c refl)

-- The closing vectors are those of the closing bounds.
pub closing_low_is : (run : Run) (initial : ℕ) (beginning : List ℕ) (places : List Place) (low l : ℕ) (vector : List ℕ)
    → IsGreatest initial (IsCertifiedLow places) l → IsClosingLow run initial beginning places low vector → l ≡ low
closing_low_is run initial beginning places low l vector g k =
    let a = most g.source in let b = least k.source in omega arith
  where
    most : (l ≡ initial) ⊎ IsCertifiedLow places l → l ≤ low
    most (inl is) = let b = k.least in omega arith
    most (inr any) = offered_at_most low l places k.greatest any

    least : ((low ≡ initial) × (vector ≡ beginning)) ⊎ ((initial < low) × IsFirstLowAmong run places low vector)
        → low ≤ l
    least (inl is) = let b = g.from in let c = is.0 in omega arith
    least (inr f) =
        let p = f.1.place in let r = f.1.first in let raise = logged Raises low r.answer in
        let log = ap (times is_raise low) r.log_is in
        let split = times-append is_raise low r.before (raise ∷ r.after) in
        let here : 0 < times is_raise low p.log = omega (arith, log, split, one_offer low) in
        let all = ap (λ (ps : List Place). total (λ q. times is_raise low q.log) ps) f.1.places_are in
        let sum = total-append (λ q. times is_raise low q.log) f.1.before (p ∷ f.1.after) in
        g.all low (omega (arith, all, sum, here))

pub closing_high_is : (run : Run) (initial : ℕ) (beginning : List ℕ) (places : List Place) (high h : ℕ)
    (vector : List ℕ) → IsLeast initial (IsCertifiedHigh places) h
    → IsClosingHigh run initial beginning places high vector → h ≡ high
closing_high_is run initial beginning places high h vector g k =
    let a = least g.source in let b = most k.source in omega arith
  where
    least : (h ≡ initial) ⊎ IsCertifiedHigh places h → high ≤ h
    least (inl is) = let b = k.most in omega arith
    least (inr any) = offered_at_least high h places k.least any

    most : ((high ≡ initial) × (vector ≡ beginning)) ⊎ ((high < initial) × IsFirstHighAmong run places high vector)
        → h ≤ high
    most (inl is) = let b = g.from in let c = is.0 in omega arith
    most (inr f) =
        let p = f.1.place in let r = f.1.first in let lower = logged Lowers high r.answer in
        let log = ap (times is_lower high) r.log_is in
        let split = times-append is_lower high r.before (lower ∷ r.after) in
        let here : 0 < times is_lower high p.log = omega (arith, log, split, one_offer high) in
        let all = ap (λ (ps : List Place). total (λ q. times is_lower high q.log) ps) f.1.places_are in
        let sum = total-append (λ q. times is_lower high q.log) f.1.before (p ∷ f.1.after) in
        g.all high (omega (arith, all, sum, here))

scale_small : (e : ℕ) → IsExponent e → 2 * 2 ^ e < 2 ^ 62
scale_small e (inl is) = let s = ap (λ k. 2 ^ k) is in omega (arith, s)
scale_small e (inr is) = let s = ap (λ k. 2 ^ k) is in omega (arith, s)

is_positive : (run : Run) (v : List ℕ) → IsVectorOf (rows_of run) v → IsPositive v
is_positive run v h = record {
  positive = h.positive;
  small = All-weaker (λ x. x ≤ 2 ^ 60) (λ x. x < 2 ^ 62)
      (λ x k. omega (arith, k)) v h.small;
}

-- The best ends are a certificate.
pub certificate_holds : (run : Run) (e : WorkEnd) (ranks : List ℕ) (l h : ℕ) → IsRunStart run → AreEndsOf run e
    → ranks ≡ run.ranks → l ≡ e.low.low → h ≡ e.high.high → l ≤ h → h ≤ run.initial.high
    → IsCertificate (rows_of run) (record {
      ranks = ranks;
      low_rank = e.low.low_rank;
      low_vector = e.low_vector.items;
      high_vector = e.high_vector.items;
      low = l;
      high = h;
    })
certificate_holds run e ranks l h start ends same low high order most =
    let top = scale_small run.exponent start.scaled.scale in let bound = start.to in
    let small : e.high.high < 2 ^ 62 = omega arith in
    let E : List ℕ → ℕ → ℕ → Evidence = λ rs x y.
    record {
      ranks = rs;
      low_rank = e.low.low_rank;
      low_vector = e.low_vector.items;
      high_vector =
          e.high_vector.items;
      low = x;
      high = y;
    } in
    let own : IsCertificate (rows_of run) (E run.ranks e.low.low e.high.high) = record {
      lengths = record {
        ranks = start.ranking.each;
        low_vector = ends.low_vector.each;
        high_vector =
            ends.high_vector.each;
      };
      ranking = record { ranking = start.ranking; low_rank = ends.low.occurs };
      entries = record {
        low_vector = is_positive run e.low_vector.items ends.low_vector;
        high_vector = is_positive run e.high_vector.items ends.high_vector;
        low = omega arith;
        high = small;
      };
      low = ends.low.low_shown;
      high = ends.high.high_shown small;
    } in
    subst (λ (x : ℕ). IsCertificate (rows_of run) (E ranks x h)) (sym low)
    (subst (λ (y : ℕ). IsCertificate (rows_of run) (E ranks e.low.low y)) (sym high)
    (subst (λ (rs : List ℕ). IsCertificate (rows_of run) (E rs e.low.low e.high.high)) (sym same) own))
