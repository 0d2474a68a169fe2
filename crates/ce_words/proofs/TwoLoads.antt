-- What the two loads of the bounds tell together, and what the words of a closed board tell.
use Rattle.std.proofs.Common.{◌≡◌, ℕ, zero, suc, ◌<◌, ◌≤◌, List, [], ◌∷◌, get_or, slice_index, sym, ap, ◌∙◌, subst}
use Rattle.std.proofs.Common.{⊎_elim, arith}
use mathlib.Core.Option.{some, some-injective, some-ne-none}
use lib.ListN.{get_elem?}
use Rattle.atomic_table.specs.Table.{State}
use Rattle.ce_rows.proofs.Rates.{low_at_most_high_of_rows}
use Rattle.ce_rows.specs.Rows.{EnclosesRows, IsLowerBoundOf, IsUpperBoundOf}
use Rattle.ce_rows.specs.SharedWords.{shared_in}
use Rattle.ce_rows.specs.declared.act.Act.TheVariants.{LoadsLow, LoadsHigh}
use Rattle.ce_words.specs.Invariant.{IsLeast, HoldsInvariant}
use Rattle.ce_words.specs.Logs.{is_lower, times, halts, by_place}
use Rattle.ce_words.specs.Steps.{IsWhole, IsSettled, WasSet, IsStep}
use Rattle.ce_words.specs.Views.{rows_of, logged, noted}
use Rattle.ce_words.specs.declared.view.Run.{Run}
use Rattle.ce_words.specs.declared.view.View.{View}
use Rattle.ce_words.proofs.Logs.{times-snoc, halts-snoc}
use Rattle.ce_words.proofs.Permits.{is_settled, were_set}
use Rattle.ce_words.proofs.Seats.{least_as}

one_least : (start : ℕ) (p : ℕ → Type 0) (a b : ℕ) → IsLeast start p a → IsLeast start p b → a ≡ b
one_least start p a b f g =
    let up : (x y : ℕ) → IsLeast start p x → IsLeast start p y
    → x ≤ y = λ x y m n. let h = m.from in ⊎_elim (λ (e : y ≡ start). omega (arith, e, h))
    (λ (l : p y). m.all y l) n.source in
    let ab = up a b f g in
    let ba = up b a g f in
    omega (arith, ab, ba)

module _ (v : View) (low high : ℕ) (first : IsStep v LoadsLow 0 low)
    (second : IsStep (noted v (logged LoadsLow 0 low)) LoadsHigh 0 high) where
  abbrev between : View
  between = noted v (logged LoadsLow 0 low)

  same_lowered : (c : ℕ) → by_place (λ p. times is_lower c p.log) between ≡ by_place (λ p. times is_lower c p.log) v
  same_lowered c = omega (arith, times-snoc is_lower c v.place.log (logged LoadsLow 0 low))

  same_halts : by_place (λ p. halts p.log) between ≡ by_place (λ p. halts p.log) v
  same_halts = omega (arith, halts-snoc v.place.log (logged LoadsLow 0 low))

  pub lowered : (c : ℕ) → 0 < by_place (λ p. times is_lower c p.log) v → high ≤ c
  lowered c l = let h = second.permitted.lowered c (omega (arith, l, same_lowered c)) in omega
      (arith, h, second.answers)

  -- Where the bounds are equal from some step on, each answer is a lower bound and an upper one.
  pub stopped : 0 < by_place (λ p. halts p.log) v → low ≡ high
  stopped l =
      let rows = rows_of v.run in
      let equal_first = first.permitted.told l in
      let equal_second = second.permitted.told (omega (arith, l, same_halts)) in
      let low_below : IsLowerBoundOf rows low = subst (IsLowerBoundOf rows) (sym first.answers)
      first.permitted.encloses.below in
      let low_above : IsUpperBoundOf rows low = subst (IsUpperBoundOf rows) (sym (first.answers ∙ equal_first))
      first.permitted.encloses.above in
      let high_below : IsLowerBoundOf rows high = subst (IsLowerBoundOf rows)
      (sym (second.answers ∙ sym equal_second)) second.permitted.encloses.below in
      let high_above : IsUpperBoundOf rows high = subst (IsUpperBoundOf rows) (sym second.answers)
      second.permitted.encloses.above in
      omega (
        arith,
        low_at_most_high_of_rows rows low high low_below high_above,
        low_at_most_high_of_rows rows high
            low high_below low_above,
      )

  -- The view determines the high bound, so it was the same at both steps.
  pub settled_at : IsWhole v → IsSettled v low high
  settled_at whole =
      let one = first.permitted.settled whole in
      let two = second.permitted.settled (record { first = whole.first; out = whole.out }) in
      let offered : ℕ → Type 0 = λ c. 0 < by_place (λ p. times is_lower c p.log) v in
      let least : IsLeast v.run.initial.high offered second.before.high =
      least_as v.run.initial.high (λ c. 0 < by_place (λ p. times is_lower c p.log) between) offered
      second.before.high (λ c l. omega (arith, l, same_lowered c)) (λ c l. omega (arith, l, same_lowered c))
      two.least in
      let is_high : first.before.high ≡ high = one_least v.run.initial.high offered first.before.high
      second.before.high one.least least ∙ sym second.answers in
      subst (λ (h : ℕ). IsSettled v low h) is_high
      (subst (λ (l : ℕ). IsSettled v l first.before.high) (sym first.answers) one)

at_get : (l : List ℕ) (i a d : ℕ) → get_elem? l i ≡ some a → get_or l i d ≡ a
at_get [] i a d e = absurd (some-ne-none a (sym e))
at_get (x ∷ xs) zero a d e = some-injective x a e
at_get (x ∷ xs) (suc i) a d e = at_get xs i a d e

module _ (run : Run) (t : State (Unit {0}) View) (words : List ℕ) (low high : ℕ) (k : HoldsInvariant run t)
    (is : t.words ≡ words) (at_low : get_elem? words 0 ≡ some low) (at_high : get_elem? words 1 ≡ some high) where
  is_low : (shared_in t.words).low ≡ low
  is_low = ap (λ (x : List ℕ). slice_index x 0) is ∙ at_get words 0 low 0 at_low

  is_high : (shared_in t.words).high ≡ high
  is_high = ap (λ (x : List ℕ). slice_index x 1) is ∙ at_get words 1 high 0 at_high

  pub closed_encloses : EnclosesRows (rows_of run) low high
  closed_encloses = subst (λ (l : ℕ). EnclosesRows (rows_of run) l high) is_low
      (subst (EnclosesRows (rows_of run) (shared_in t.words).low) is_high k.holds.bounds_enclose)

  pub closed_settled : (id : ℕ) (v : View) → v.run ≡ run → get_elem? t.views id ≡ some v → IsWhole v
      → IsSettled v low high
  closed_settled id v of at whole =
      let own : HoldsInvariant v.run t = subst (λ (r : Run). HoldsInvariant r t) (sym of) k in
      let settled = is_settled (shared_in t.words) t.views id v own.holds at whole in
      subst (λ (l : ℕ). IsSettled v l high) is_low
      (subst (λ (h : ℕ). IsSettled v (shared_in t.words).low h) is_high settled)

  pub closed_was_set : (id : ℕ) (v : View) → v.run ≡ run → get_elem? t.views id ≡ some v → IsWhole v → WasSet v
  closed_was_set id v of at whole =
      let own : HoldsInvariant v.run t = subst (λ (r : Run). HoldsInvariant r t) (sym of) k in
      were_set (shared_in t.words) t.views id v own.holds at whole
