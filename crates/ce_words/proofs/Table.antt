-- The steps on the words of a table: each is the step of its act.
use Rattle.std.proofs.Common.{◌≡◌, ℕ, ◌+◌, ◌-◌, ◌≤◌, length, slice_index, set, max, sym, refl, ◌∙◌, subst, arith}
use Rattle.std.proofs.Common.{length-set}
use mathlib.Core.Option.{none, some}
use lib.ListN.{get_elem?}
use Rattle.atomic_table.specs.Table.{State, step, keeps, stepped, Allows, Splits, Joins}
use Rattle.atomic_table.proofs.Lists.{set_here, set_else}
use Rattle.ce_rows.proofs.Words.{act_changes, act_answers}
use Rattle.ce_rows.specs.Events.{Shared, after_act, answer_of}
use Rattle.ce_rows.specs.SharedWords.{shared_in, word_of, left_by}
use Rattle.ce_rows.specs.declared.act.Act.{Act}
use Rattle.ce_rows.specs.declared.act.Act.TheVariants.{Loads, Relaxes, Shrinks, Stops}
use Rattle.ce_rows.specs.declared.act.LogEntry.{LogEntry}
use Rattle.ce_words.specs.Invariant.{BoardInvariant, HoldsInvariant}
use Rattle.ce_words.specs.Steps.{IsStep, MayStep, Sat, told}
use Rattle.ce_words.specs.Views.{IsLive, logged, noted, seen_low, seen_high, spent, cut_left, cut_right, both_of}
use Rattle.ce_words.specs.Views.{CanCut}
use Rattle.ce_words.specs.declared.view.Part.{Part}
use Rattle.ce_words.specs.declared.view.Run.{Run}
use Rattle.ce_words.specs.declared.view.Role.TheVariants.{First, Other}
use Rattle.ce_words.specs.declared.view.View.{View}
use Rattle.ce_words.proofs.Permits.{permits}
use Rattle.ce_words.proofs.Joins.{join_keeps}
use Rattle.ce_words.proofs.Seats.{split_keeps}
use Rattle.ce_words.proofs.Steps.{step_keeps}
use Rattle.ce_words.proofs.Sums.{at_below}

module _ (id : ℕ) (m : Sat) (live : IsLive m.0.role) (t : State (Unit {0}) View) (k : HoldsInvariant m.0.run t)
    (at : get_elem? t.views id ≡ some m.0) where
  -- the table after a step of an act that leaves x in its word
  abbrev Stepped : Act → ℕ → ℕ → Type 0
  Stepped act c x =
      HoldsInvariant m.0.run (stepped t (word_of act) x id m.1 (noted m.0 (logged act c x)) keeps) × IsStep m.0 act c x

  one_step : (act : Act) (c : ℕ) → MayStep m.0 act c → Stepped act c (left_by act c (slice_index t.words (word_of act)))
  one_step act c may =
      let v : View = m.0 in
      let s : Shared = shared_in t.words in
      let a : ℕ = left_by act c (slice_index t.words (word_of act)) in
      let n : LogEntry = logged act c a in
      let long : 4 ≤ length t.words = let w = k.wide in omega (arith, w) in
      let answers : a ≡ answer_of s act c = act_answers t.words act c long in
      let changes : shared_in (set t.words (word_of act) a) ≡ after_act s act c = act_changes t.words act c long in
      let holds : BoardInvariant v.run (after_act s act c) (set t.views id (noted v n)) =
      subst (λ (x : ℕ). BoardInvariant v.run (after_act s act c) (set t.views id (noted v (logged act c x))))
      (sym answers) (step_keeps s t.views id v k.holds at live act c may) in
      let at_after : get_elem? (set t.views id (noted v n)) id ≡ some (noted v n) = set_here t.views id (noted v n)
      (at_below t.views id v at) in (
        record {
          wide = length-set t.words (word_of act) a ∙ k.wide;
          holds = subst
              (λ (x : Shared). BoardInvariant v.run x (set t.views id (noted v n))) (sym changes) holds;
        },
        record {
          before = s;
          permitted = permits s t.views id v k.holds at;
          answers = answers;
          permitted_after =
              permits (after_act s act c) (set t.views id (noted v n)) id (noted v n) holds at_after;
        },
      )

-- The steps of a seat of the run, as the table asks for them.
module _ (run : Run) (slots id : ℕ) (m : Sat) (of : m.0.run ≡ run) (live : IsLive m.0.role) where
  abbrev pub AllowsAt : ℕ → (ℕ → ℕ) → (ℕ → Sat → Type 0) → Type 0
  AllowsAt word left tells = Allows (HoldsInvariant run) slots id m word left tells

  pub allows : (act : Act) (c : ℕ) → MayStep m.0 act c
      → AllowsAt (word_of act) (left_by act c) (told act (step slots (word_of act) c 0 none) m)
  allows act c may =
      subst
      (λ (x : Run). Allows (HoldsInvariant x) slots id m (word_of act) (left_by act c)
      (told act (step slots (word_of act) c 0 none) m)) of
      (λ t k wide at fits64.
      let a : ℕ = left_by act c (slice_index t.words (word_of act)) in
      let done = one_step id m live t k at act c may in
      (noted m.0 (logged act c a), keeps, tt, done.0, (refl, done.1)))

  -- a store of 1 to the stop word, which is 0 or 1
  pub allows_stop : seen_low m.0 ≡ seen_high m.0 → AllowsAt 3 (λ _. 1) (λ _. told Stops (step slots 3 1 0 none) m 1)
  allows_stop equal =
      subst (λ (x : Run). Allows (HoldsInvariant x) slots id m 3 (λ _. 1) (λ _. told Stops (step slots 3 1 0 none) m 1))
      of
      (λ t k wide at fits64.
      let bit = k.holds.stop_means_equal.bit in
      let one : max (slice_index t.words 3) 1 ≡ 1 = omega (arith, bit) in
      let done : Stepped id m live t k at Stops 1 1 = subst (Stepped id m live t k at Stops 1) one
      (one_step id m live t k at Stops 1 (refl, equal)) in
      (noted m.0 (logged Stops 1 1), keeps, tt, done.0, (refl, done.1)))

  -- The word of an entry names it.
  index : (i : ℕ) → i ≡ (4 + i) - 4
  index i = omega arith

  pub allows_load : (i : ℕ) → MayStep m.0 (Loads i) 0
      → AllowsAt (4 + i) (λ n. n) (told (Loads ((4 + i) - 4)) (step slots (4 + i) 0 0 none) m)
  allows_load i may = subst (λ (e : ℕ). AllowsAt (4 + i) (λ n. n) (told (Loads e) (step slots (4 + i) 0 0 none) m))
      (index i) (allows (Loads i) 0 may)

  pub allows_relax : (i x : ℕ) → MayStep m.0 (Relaxes i) x
      → AllowsAt (4 + i) (λ _. x) (λ _. told (Relaxes ((4 + i) - 4)) (step slots (4 + i) x 0 none) m x)
  allows_relax i x may = subst
      (λ (e : ℕ). AllowsAt (4 + i) (λ _. x) (λ _. told (Relaxes e) (step slots (4 + i) x 0 none) m x)) (index i)
      (allows (Relaxes i) x may)

  pub allows_shrink : (i x : ℕ) → MayStep m.0 (Shrinks i) x
      → AllowsAt (4 + i) (λ _. x) (λ _. told (Shrinks ((4 + i) - 4)) (step slots (4 + i) x 0 none) m x)
  allows_shrink i x may = subst
      (λ (e : ℕ). AllowsAt (4 + i) (λ _. x) (λ _. told (Shrinks e) (step slots (4 + i) x 0 none) m x)) (index i)
      (allows (Shrinks i) x may)

pub splits : (run : Run) (id : ℕ) (v : View) (p : Part) → v.run ≡ run → v.role ≡ First → CanCut v p
    → Splits (HoldsInvariant run) id v (cut_left v p) (cut_right v p)
splits run id v p of first can = subst (λ (x : Run). Splits (HoldsInvariant x) id v (cut_left v p) (cut_right v p)) of
    (λ t k at. record {
      wide = k.wide;
      holds = split_keeps (shared_in t.words) t.views id v p k.holds at first can;
    })

pub joins : (run : Run) (id : ℕ) (v : View) (other : ℕ) (w : View) → v.run ≡ run → v.role ≡ First → w.role ≡ Other
    → Joins (HoldsInvariant run) id v other w (both_of v w) spent
joins run id v other w of first second = subst
    (λ (x : Run). Joins (HoldsInvariant x) id v other w (both_of v w) spent) of
    (λ t k at ne there. record {
      wide = k.wide;
      holds = join_keeps (shared_in t.words) t.views id v other w k.holds at ne
          (sym (set_else t.views id other (both_of v w) ne) ∙ there) first second;
    })
