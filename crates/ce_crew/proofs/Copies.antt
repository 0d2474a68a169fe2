-- Copies of a vector, to which the same is done step by step.
use Rattle.std.proofs.Common.{◌≡◌, ℕ, zero, suc, ◌+◌, ◌<◌, ◌≤◌, ◌⊎◌, inl, inr, List, []}
use Rattle.std.proofs.Common.{◌∷◌, ◌++◌, map, length, slice_index, set, sym, refl, ap, ◌∙◌, arith}
use Rattle.std.proofs.Common.{length-set, get_or-set_same, get_or-set_other}
use Rattle.std.specs.Prelude.{Contains, fold}
use Rattle.std.proofs.lemmas.List.{get_or_past}
use Rattle.std.proofs.lemmas.Bool.{cases_eq, cases_lt}
use Rattle.ce_rows.specs.Actors.{ActorState, after_answer, actor_after}
use Rattle.std.proofs.lemmas.List.Elements.{All-contains, All-filter}
use Rattle.ce_rows.specs.Rows.{AreRows, successors_in}
use Rattle.ce_rows.specs.declared.row.Row.TheVariants.{One}
use Rattle.ce_rows.specs.Blocks.{has_rank_of, block_sum_of, block_images, block_successors}
use Rattle.ce_rows.specs.declared.row.Row.{Row}
use Rattle.ce_rows.specs.declared.act.Act.{Act}
use Rattle.ce_rows.specs.declared.act.Act.TheVariants.{Loads, Relaxes, Shrinks, LoadsLow, LoadsHigh, Raises, Lowers}
use Rattle.ce_rows.specs.declared.act.Act.TheVariants.{LoadsShift, Asks, LoadsStop, Stops}
use Rattle.ce_rows.specs.declared.act.LogEntry.{LogEntry}
use Rattle.ce_rows.proofs.Images.{block_images_are, first_or_later}
use Rattle.ce_crew.specs.MachineSteps.{acts_of}
use Rattle.ce_crew.specs.Gains.{copy_by, copied}

copy_one : (own : ActorState) (act : Act) (a : ℕ) → (after_answer own act a).copy ≡ copy_by act a own.copy
copy_one own (Loads i) a = refl
copy_one own (Relaxes i) a = refl
copy_one own (Shrinks i) a = refl
copy_one own LoadsLow a = refl
copy_one own LoadsHigh a = refl
copy_one own Raises a = refl
copy_one own Lowers a = refl
copy_one own LoadsShift a = refl
copy_one own Asks a = refl
copy_one own LoadsStop a = refl
copy_one own Stops a = refl

-- An actor's copy is what its steps leave in a copy.
pub copy_is_copied : (own : ActorState) (es : List LogEntry) → (actor_after own es).copy ≡ copied own.copy es
copy_is_copied own [] = refl
copy_is_copied own (e ∷ es) =
    copy_is_copied (after_answer own e.act e.answer) es ∙ ap (λ (xs : List ℕ). copied xs es)
    (copy_one own e.act e.answer)

pub copied-append : (xs : List ℕ) (es fs : List LogEntry) → copied xs (es ++ fs) ≡ copied (copied xs es) fs
copied-append xs [] fs = refl
copied-append xs (e ∷ es) fs = copied-append (copy_by e.act e.answer xs) es fs

length-copy_by : (act : Act) (a : ℕ) (xs : List ℕ) → length (copy_by act a xs) ≡ length xs
length-copy_by (Loads i) a xs = length-set xs i a
length-copy_by (Relaxes i) a xs = length-set xs i a
length-copy_by (Shrinks i) a xs = length-set xs i a
length-copy_by LoadsLow a xs = refl
length-copy_by LoadsHigh a xs = refl
length-copy_by Raises a xs = refl
length-copy_by Lowers a xs = refl
length-copy_by LoadsShift a xs = refl
length-copy_by Asks a xs = refl
length-copy_by LoadsStop a xs = refl
length-copy_by Stops a xs = refl

pub length-copied : (xs : List ℕ) (es : List LogEntry) → length (copied xs es) ≡ length xs
length-copied xs [] = refl
length-copied xs (e ∷ es) = length-copied (copy_by e.act e.answer xs) es ∙ length-copy_by e.act e.answer xs

-- Two copies that agree at an entry agree there after the same act.
set_agrees : (xs ys : List ℕ) (i a e : ℕ) → length xs ≡ length ys → slice_index xs e ≡ slice_index ys e
    → slice_index (set xs i a) e ≡ slice_index (set ys i a) e
set_agrees xs ys i a e same h = elim (cases_eq e i) [
  | inl is ↦ elim (cases_lt i (length xs)) [
    | inl inside ↦ ap (slice_index (set xs i a)) is ∙ (get_or-set_same xs i a 0 inside ∙ sym
        (ap (slice_index (set ys i a)) is ∙ get_or-set_same ys i a 0 (omega (arith, same))))
    | inr past ↦
        let past_xs : length (set xs i a) ≤ e = omega (arith, length-set xs i a) in
        let past_ys : length (set ys i a) ≤ e = omega (arith, length-set ys i a, same) in
        get_or_past (set xs i a) e 0 past_xs ∙ sym (get_or_past (set ys i a) e 0 past_ys)
  ]
  | inr other ↦ get_or-set_other xs i e a 0 other ∙ (h ∙ sym (get_or-set_other ys i e a 0 other))
]

by_agrees : (act : Act) (a e : ℕ) (xs ys : List ℕ) → length xs ≡ length ys → slice_index xs e ≡ slice_index ys e
    → slice_index (copy_by act a xs) e ≡ slice_index (copy_by act a ys) e
by_agrees (Loads i) a e xs ys same h = set_agrees xs ys i a e same h
by_agrees (Relaxes i) a e xs ys same h = set_agrees xs ys i a e same h
by_agrees (Shrinks i) a e xs ys same h = set_agrees xs ys i a e same h
by_agrees LoadsLow a e xs ys same h = h
by_agrees LoadsHigh a e xs ys same h = h
by_agrees Raises a e xs ys same h = h
by_agrees Lowers a e xs ys same h = h
by_agrees LoadsShift a e xs ys same h = h
by_agrees Asks a e xs ys same h = h
by_agrees LoadsStop a e xs ys same h = h
by_agrees Stops a e xs ys same h = h

lengths_stay : (act : Act) (a : ℕ) (xs ys : List ℕ) → length xs ≡ length ys
    → length (copy_by act a xs) ≡ length (copy_by act a ys)
lengths_stay act a xs ys same = length-copy_by act a xs ∙ (same ∙ sym (length-copy_by act a ys))

pub copies_agree : (es : List LogEntry) (e : ℕ) (xs ys : List ℕ) → length xs ≡ length ys
    → slice_index xs e ≡ slice_index ys e → slice_index (copied xs es) e ≡ slice_index (copied ys es) e
copies_agree [] e xs ys same h = h
copies_agree (x ∷ es) e xs ys same h =
    copies_agree es e (copy_by x.act x.answer xs) (copy_by x.act x.answer ys)
    (lengths_stay x.act x.answer xs ys same) (by_agrees x.act x.answer e xs ys same h)

-- One of some acts loads the entry.
abbrev pub AnyLoads : ℕ → List Act → Type 0
AnyLoads e [] = ⊥
AnyLoads e (act ∷ acts) = (act ≡ Loads e) ⊎ AnyLoads e acts

-- After it was loaded, two copies agree at an entry, whatever they held.
pub loaded_agree : (es : List LogEntry) (e : ℕ) (xs ys : List ℕ) → length xs ≡ length ys → e < length xs
    → AnyLoads e (acts_of es) → slice_index (copied xs es) e ≡ slice_index (copied ys es) e
loaded_agree [] e xs ys same inside h = absurd h
loaded_agree (x ∷ es) e xs ys same inside (inl is) =
    let now : (zs : List ℕ) → e < length zs
    → slice_index (copy_by x.act x.answer zs) e ≡ x.answer =
    λ zs l. ap (λ (act : Act). slice_index (copy_by act x.answer zs) e) is
    ∙ get_or-set_same zs e x.answer 0 l in
    copies_agree es e (copy_by x.act x.answer xs) (copy_by x.act x.answer ys)
    (lengths_stay x.act x.answer xs ys same) (now xs inside ∙ sym (now ys (omega (arith, same, inside))))
loaded_agree (x ∷ es) e xs ys same inside (inr later) =
    loaded_agree es e (copy_by x.act x.answer xs) (copy_by x.act x.answer ys)
    (lengths_stay x.act x.answer xs ys same) (omega (arith, inside, length-copy_by x.act x.answer xs)) later

pub any_of_loads : (js : List ℕ) (e : ℕ) → Contains js e → AnyLoads e (map (λ j. Loads j) js)
any_of_loads [] e h = absurd (omega (arith, h.1))
any_of_loads (j ∷ js) e h = elim (first_or_later j js e h) [
  | inl is ↦ inl (ap (λ k. Loads k) is)
  | inr later ↦ inr (any_of_loads js e later)
]

pub any_left : (e : ℕ) (xs ys : List Act) → AnyLoads e xs → AnyLoads e (xs ++ ys)
any_left e [] ys h = absurd h
any_left e (x ∷ xs) ys (inl is) = inl is
any_left e (x ∷ xs) ys (inr later) = inr (any_left e xs ys later)

pub any_right : (e : ℕ) (xs ys : List Act) → AnyLoads e ys → AnyLoads e (xs ++ ys)
any_right e [] ys h = h
any_right e (x ∷ xs) ys h = inr (any_right e xs ys h)

-- A block sum is that of any copy that agrees at the images.
folds_agree : (f g : ℕ → ℕ) (js : List ℕ) → ((j : ℕ) → Contains js j → f j ≡ g j) → (a : ℕ)
    → fold (λ b x. b + f x) a js ≡ fold (λ b x. b + g x) a js
folds_agree f g [] h a = refl
folds_agree f g (j ∷ js) h a =
    ap (λ k. fold (λ b x. b + f x) (a + k) js) (h j (0, omega arith, refl))
    ∙ folds_agree f g js (λ k c. h k (suc c.0, omega (arith, c.1), c.2)) (a + g j)

pub block_sums_agree : (list : List Row) (ranks xs ys : List ℕ) (i : ℕ)
    → ((j : ℕ) → Contains (block_images list ranks i) j → slice_index xs j ≡ slice_index ys j)
    → block_sum_of list ranks xs i ≡ block_sum_of list ranks ys i
block_sums_agree list ranks xs ys i h =
    folds_agree (slice_index xs) (slice_index ys) (block_successors list ranks i)
    (λ j c. h j ((block_images_are list ranks i j).1 c)) 0

-- An image is a row.
pub image_inside : (list : List Row) (ranks : List ℕ) → AreRows list → (i j : ℕ) → i < length list
    → Contains (block_images list ranks i) j → j < length list
image_inside list ranks are i j inside c =
    let P : ℕ → Type 0 = λ x. x < length list in
    All-contains P (block_successors list ranks i) j (All-filter (has_rank_of ranks i) P (successors_in list i)
    (are.within i (One 0) inside)) ((block_images_are list ranks i j).0 c)
