-- The sweep of a turn over a part.
use Rattle.std.proofs.Common.{◌≡◌, ℕ, zero, suc, ◌-◌, ◌<◌, ◌≤◌, inl, List, [], ◌∷◌, length}
use Rattle.std.proofs.Common.{slice_index, sym, ap, ◌∙◌, subst, arith}
use Rattle.std.specs.Prelude.{Contains}
use Rattle.std.specs.List.{range_with_len, flat_map}
use Rattle.std.proofs.lemmas.List.FromFn.{length-range_with_len, get_or-range_with_len}
use Rattle.ce_core.specs.Machine.{carried}
use Rattle.ce_rows.specs.Blocks.{block_sum_of, block_images}
use Rattle.ce_rows.specs.declared.act.Act.{Act}
use Rattle.ce_rows.specs.declared.act.Act.TheVariants.{Loads, Relaxes}
use Rattle.ce_vector.specs.Relaxation.{relaxed}
use Rattle.ce_words.specs.Views.{rows_of, kept, seen_low, seen_high}
use Rattle.ce_words.specs.declared.view.Part.{Part}
use Rattle.ce_words.specs.declared.view.Run.{Run}
use Rattle.ce_words.specs.declared.view.View.{View}
use Rattle.ce_crew.specs.MachineSteps.{acts_of}
use Rattle.ce_crew.specs.Turn.{loads_of, relaxing_acts, entries_between}
use Rattle.ce_crew.specs.Gains.{Gains, IsRunStart, HasLoaded}
use Rattle.ce_crew.proofs.Copies.{AnyLoads, any_right, any_left}
use Rattle.ce_crew.proofs.Gained.{relaxed_here, agrees_loaded, agrees_still, sees_as_before}
use Rattle.ce_crew.proofs.Grown.{AreOnEntries, SeesAs, on_entries-append, on_entries-map}

-- Once an entry and its images were loaded, the relaxed value of the private copy is the machine's.
pub stores_relaxed : (run : Run) (v w : View) (xs ys : List ℕ) (i : ℕ) → v.run ≡ run → IsRunStart run
    → length xs ≡ length run.rows → i < length run.rows
    → Gains (Loads i ∷ loads_of (block_images run.rows run.ranks i)) 0 v w xs ys
    → relaxed run.exponent (slice_index ys i) (block_sum_of run.rows run.ranks ys i) (seen_low v) (seen_high v)
    ≡ carried (rows_of run) run.ranks (kept run w.place.log) (Relaxes i)
stores_relaxed run v w xs ys i same start long inside g =
    let P : Run → Type 0 = λ r. IsRunStart r → length xs ≡ length r.rows → i < length r.rows
    → Gains (Loads i ∷ loads_of (block_images r.rows r.ranks i)) 0 v w xs ys
    → relaxed r.exponent (slice_index ys i) (block_sum_of r.rows r.ranks ys i) (seen_low v) (seen_high v)
    ≡ carried (rows_of r) r.ranks (kept r w.place.log) (Relaxes i) in
    let own : P v.run = λ s l n h.
    let r = v.run in let here = relaxed_here v s h.steps xs l i n h.acts_are in
    ap (λ (zs : List ℕ). relaxed r.exponent (slice_index zs i) (block_sum_of r.rows r.ranks zs i) (seen_low v)
    (seen_high v)) h.copy_is
    ∙ (here ∙ ap (λ (u : View). carried (rows_of r) r.ranks (kept r u.place.log) (Relaxes i)) (sym h.view_is)) in
    subst P same own start long inside g

-- what a seat keeps of the shared words
abbrev pub SeesSame : View → View → Type 0
SeesSame w v = SeesAs (kept w.run w.place.log) (kept v.run v.place.log)

-- Loads, relaxations and rescalings leave what the seat saw.
pub seen_stays : (run : Run) (v w : View) (acts : List Act) (greatest : ℕ) (xs ys : List ℕ) → v.run ≡ run
    → IsRunStart run → length xs ≡ length run.rows → AreOnEntries acts → Gains acts greatest v w xs ys → SeesSame w v
seen_stays run v w acts greatest xs ys same start long on g =
    let s : IsRunStart v.run = subst IsRunStart (sym same) start in
    let l : length xs ≡ length v.run.rows = subst (λ (r : Run). length xs ≡ length r.rows) (sym same) long in
    subst (λ (u : View). SeesSame u v) (sym g.view_is) (sees_as_before v s g.steps xs l
    (subst AreOnEntries (sym g.acts_are) on))

-- The part of a seat stays, and its run.
pub part_stays : (v w : View) (acts : List Act) (greatest : ℕ) (xs ys : List ℕ) → Gains acts greatest v w xs ys
    → w.place.part ≡ v.place.part
part_stays v w acts greatest xs ys g = ap (λ (u : View). u.place.part) g.view_is

-- A range that was gone through to its end.
pub range_done : (from to i : ℕ) → from ≤ to → from ≤ i → (from ≤ to → i ≤ to) → to ≤ i
    → entries_between from i ≡ entries_between from to
range_done from to i order low high end =
    let top = high order in let e : i - from ≡ to - from = omega arith in ap (range_with_len from) e

pub relaxing_on_entries : (run : Run) (i : ℕ) → AreOnEntries (relaxing_acts run i)
relaxing_on_entries run i =
    let images = block_images run.rows run.ranks i in
    (tt, on_entries-append (loads_of images) (Relaxes i ∷ []) (on_entries-map (λ j. Loads j) (λ j. tt) images) (tt, tt))

-- A copy that had a part as the log had it has it still.
pub still_loaded : (run : Run) (v w : View) (acts : List Act) (greatest : ℕ) (xs ys : List ℕ) (p : Part) → v.run ≡ run
    → IsRunStart run → length xs ≡ length run.rows → Gains acts greatest v w xs ys → HasLoaded run v p xs
    → HasLoaded run w p ys
still_loaded run v w acts greatest xs ys p same start long g h e from to =
    let P : Run → Type 0 = λ r. IsRunStart r → length xs ≡ length r.rows → HasLoaded r v p xs → slice_index ys e
    ≡ slice_index (kept r w.place.log).copy e in
    let own : P v.run = λ s l k.
    let now = agrees_still v s g.steps xs l e (k e from to) in
    ap (λ (zs : List ℕ). slice_index zs e) g.copy_is ∙ (now ∙ ap
    (λ (u : View). slice_index (kept v.run u.place.log).copy e) (sym g.view_is)) in
    subst P same own start long h

-- An entry of a range.
pub between_has : (from to e : ℕ) → from ≤ e → e < to → Contains (entries_between from to) e
between_has from to e low high = (
  e - from,
  omega (arith, length-range_with_len from (to - from)),
  get_or-range_with_len from (to - from)
      (e - from) e (omega arith) ∙ omega arith,
)

-- After the sweep the copy has the part as the log has it.
pub part_loaded : (run : Run) (v w : View) (greatest : ℕ) (xs ys : List ℕ) (p : Part) → v.run ≡ run → IsRunStart run
    → length xs ≡ length run.rows → p.to ≤ length run.rows
    → Gains (flat_map (relaxing_acts run) (entries_between p.from p.to)) greatest v w xs ys → HasLoaded run w p ys
part_loaded run v w greatest xs ys p same start long inside g e from to =
    let P : Run → Type 0 = λ r. IsRunStart r → length xs ≡ length r.rows → e < length r.rows → slice_index ys e
    ≡ slice_index (kept r w.place.log).copy e in
    let any : AnyLoads e (acts_of g.steps) = subst (AnyLoads e) (sym g.acts_are)
    (any_in_sweep run (entries_between p.from p.to) e (between_has p.from p.to e from to)) in
    let own : P v.run = λ s l i.
    let now = agrees_loaded v s g.steps xs l e i any in
    ap (λ (zs : List ℕ). slice_index zs e) g.copy_is ∙ (now ∙ ap
    (λ (u : View). slice_index (kept v.run u.place.log).copy e) (sym g.view_is)) in
    subst P same own start long (omega arith)
  where
    any_in_sweep : (run : Run) (js : List ℕ) (e : ℕ) → Contains js e → AnyLoads e (flat_map (relaxing_acts run) js)
    any_in_sweep run [] e h = absurd (omega (arith, h.1))
    any_in_sweep run (j ∷ js) e (zero, within, is) =
        any_left e (relaxing_acts run j) (flat_map (relaxing_acts run) js) (inl (ap (λ k. Loads k) is))
    any_in_sweep run (j ∷ js) e (suc k, within, is) =
        any_right e (relaxing_acts run j) (flat_map (relaxing_acts run) js) (any_in_sweep run js e (k, omega arith, is))
