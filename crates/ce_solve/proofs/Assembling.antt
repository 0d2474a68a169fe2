-- Seats that are handed out, part by part from the upper end.
use Rattle.std.proofs.Common.{◌≡◌, ℕ, zero, suc, ◌+◌, ◌*◌, ◌/◌, ◌<◌, ◌≤◌, List, [], ◌∷◌, ◌++◌, All, refl, sym, ap}
use Rattle.std.proofs.Common.{◌∙◌, arith}
use Rattle.std.specs.Prelude.{Result, Ok, Err, IfOk, nat_lt, if◌then◌else◌}
use Rattle.std.proofs.Math.Nat.{div-le_of_le-mul, div-mul-le_self, le-div_iff_mul-le, mul-le-mul_right}
use Rattle.std.proofs.lemmas.Bool.Decides.{nat_tests}
use mathlib.Core.Option.{some-injective}
use Rattle.ce_words.specs.declared.view.Place.{Place}
use Rattle.ce_live.specs.Sessions.{SessionState}
use Rattle.ce_solve.specs.ActorsInside.{ArePartsFrom, AreSessionsFrom, sessions_in}
use Rattle.ce_solve.specs.ChaoticRun.{part_of}
use Rattle.ce_solve.specs.declared.crew.Actor.{Actor}
use Rattle.ce_solve.specs.declared.crew.Actor.TheVariants.{Worker as AWorker, Session as ASession}

pub if_ok : {T E : Type 0} (r : Result T E) (P Q : T → Type 0) → IfOk r P → ((x : T) → P x → Q x) → IfOk r Q
if_ok (Ok x) P Q h f = f x h
if_ok (Err e) P Q h f = tt

pub part_within : (n w k : ℕ) → k < w → (k + 1) * n / w ≤ n
part_within n w k less = div-le_of_le-mul w (mul-le-mul_right n (omega arith))

pub part_ordered : (n w k : ℕ) → 0 < w → k * n / w ≤ (k + 1) * n / w
part_ordered n w k positive =
    let down = div-mul-le_self (k * n) w in
    let more : k * n ≤ (k + 1) * n = mul-le-mul_right n (omega arith) in
    let both : k * n / w * w ≤ (k + 1) * n = omega (arith, down, more) in
    (le-div_iff_mul-le positive).1 both

-- what is left below a part that was split off
pub left_below : (from to top : ℕ) → to ≡ top → from ≤ to → (if nat_lt from to then from else top) ≡ from
left_below from to top same order = grind (arith, nat_tests)

pub parts_more : (n w first : ℕ) (p : Place) (ps : List Place) → p.part ≡ part_of n w first
    → ArePartsFrom n w (first + 1) ps → ArePartsFrom n w first (p ∷ ps)
parts_more n w first p ps here rest zero q at =
    let number : first ≡ first + 0 = omega arith in
    ap (λ (x : Place). x.part) (sym (some-injective p q at)) ∙ (here ∙ ap (part_of n w) number)
parts_more n w first p ps here rest (suc k) q at =
    let number : first + 1 + k ≡ first + suc k = omega arith in
    rest k q at ∙ ap (part_of n w) number

pub all_cons : (P : Actor → Type 0) (x : Actor) (xs : List Actor) → P x → All P xs → All P (x ∷ xs)
all_cons P x xs h all zero d l = h
all_cons P x xs h all (suc k) d l = all k d (omega arith)

-- one session more
pub sessions_more : (xs : List Actor) (s : SessionState) → sessions_in (xs ++ ASession s ∷ []) ≡ sessions_in xs + 1
sessions_more [] s = refl
sessions_more (AWorker w ∷ xs) s = sessions_more xs s
sessions_more (ASession r ∷ xs) s = ap (λ n. n + 1) (sessions_more xs s)

pub numbered_more : (first : ℕ) (xs : List Actor) (s : SessionState) → AreSessionsFrom first xs
    → s.session ≡ first + sessions_in xs → AreSessionsFrom first (xs ++ ASession s ∷ [])
numbered_more first [] s h number = (omega (arith, number), tt)
numbered_more first (AWorker w ∷ xs) s h number = numbered_more first xs s h number
numbered_more first (ASession r ∷ xs) s h number =
    (h.0, numbered_more (first + 1) xs s h.1 (omega (arith, number)))
