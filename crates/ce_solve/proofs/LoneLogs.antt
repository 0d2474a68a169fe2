-- Logs of one place: where two logs certify a number first.
use Rattle.std.proofs.Common.{◌≡◌, ℕ, ◌<◌, Bool, List, [], ◌∷◌, ◌++◌, refl, ap, arith}
use mathlib.Core.Logic.{dite}
use native.Mathlib.Decide.{ℕ_discrete}
use Rattle.ce_rows.specs.declared.act.Act.{Act}
use Rattle.ce_rows.specs.declared.act.LogEntry.{LogEntry}
use Rattle.ce_words.specs.Logs.{times, offer}
use Rattle.ce_words.specs.declared.view.Place.{Place}
use Rattle.ce_crew.proofs.BestVectors.{times-append}

-- The first steps of a kind that carry a number stand at one place of what two logs share.
pub one_first : (is : Act → Bool) (c : ℕ) (xs xs' ys ys' shared halt halt' : List LogEntry) (s s' : LogEntry)
    → xs ++ s ∷ ys ≡ shared ++ halt → xs' ++ s' ∷ ys' ≡ shared ++ halt' → times is c xs ≡ 0 → times is c xs' ≡ 0
    → 0 < offer is c s → 0 < offer is c s' → times is c halt ≡ 0 → times is c halt' ≡ 0 → xs ≡ xs'
one_first is c xs xs' ys ys' [] halt halt' s s' h k none none' offers offers' quiet quiet' =
    let whole = ap (times is c) h in absurd (omega (arith, whole, times-append is c xs (s ∷ ys), offers, quiet))
one_first is c [] [] ys ys' (w ∷ ws) halt halt' s s' h k none none' offers offers' quiet quiet' = refl
one_first is c [] (x ∷ xs) ys ys' (w ∷ ws) halt halt' s s' h k none none' offers offers' quiet quiet' =
    let same : s ≡ x = cc in let moved = ap (offer is c) same in absurd (omega (arith, moved, offers, none'))
one_first is c (x ∷ xs) [] ys ys' (w ∷ ws) halt halt' s s' h k none none' offers offers' quiet quiet' =
    let same : x ≡ s' = cc in let moved = ap (offer is c) same in absurd (omega (arith, moved, offers', none))
one_first is c (x ∷ xs) (y ∷ zs) ys ys' (w ∷ ws) halt halt' s s' h k none none' offers offers' quiet quiet' =
    let same : x ≡ y = cc in
    let rest = one_first is c xs zs ys ys' ws halt halt' s s' (cc) (cc) (omega (arith, none)) (omega (arith, none'))
    offers offers' quiet quiet' in
    (λ i. same i ∷ rest i)

-- what was not offered
pub never : (is : Act → Bool) (c : ℕ) (log : List LogEntry) → (0 < times is c log → ⊥) → times is c log ≡ 0
never is c log h = dite (ℕ_discrete (times is c log) 0) (λ z. z) (λ ne. absurd (h (omega (arith, ne))))

-- a list of one has that one
pub in_one : (before : List Place) (x q : Place) (after : List Place) → q ∷ [] ≡ before ++ x ∷ after → x ≡ q
in_one [] x q after same = cc
in_one (b ∷ []) x q after same = absurd (cc)
in_one (b ∷ c ∷ bs) x q after same = absurd (cc)
