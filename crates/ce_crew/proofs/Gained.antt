-- Pieces of a turn, one after another.
use Rattle.std.proofs.Common.{◌≡◌, ℕ, ◌+◌, ◌-◌, ◌<◌, ◌≤◌, max, inl, inr, List, [], ◌∷◌, ◌++◌, map, length}
use Rattle.std.proofs.Common.{slice_index, sym, refl, ap, ◌∙◌, subst, arith, append_assoc, append-nil}
use Rattle.std.specs.Prelude.{Contains}
use Rattle.std.specs.List.{range_with_len, flat_map}
use Rattle.std.proofs.lemmas.List.{flat_map_more, map-id}
use Rattle.std.proofs.lemmas.List.FromFn.{map-range_with_len_more}
use Rattle.ce_core.specs.Machine.{carried}
use Rattle.ce_rows.specs.Actors.{ActorState, actor_after}
use Rattle.ce_rows.specs.Blocks.{block_sum_of, block_images}
use Rattle.ce_rows.specs.declared.act.Act.{Act}
use Rattle.ce_rows.specs.declared.act.Act.TheVariants.{Loads, Relaxes}
use Rattle.ce_rows.specs.declared.act.LogEntry.{LogEntry}
use Rattle.ce_vector.specs.Relaxation.{relaxed}
use Rattle.ce_words.specs.Views.{rows_of, kept, noted, viewed, place}
use Rattle.ce_words.specs.declared.view.Run.{Run}
use Rattle.ce_words.specs.declared.view.View.{View}
use Rattle.ce_crew.specs.MachineSteps.{acts_of, AreMachineSteps}
use Rattle.ce_crew.specs.Turn.{greatest_relaxed, loads_of}
use Rattle.ce_crew.specs.Gains.{copied, grown, Gains, IsRunStart}
use Rattle.ce_crew.proofs.Copies.{copy_is_copied, copied-append, copies_agree, loaded_agree, AnyLoads, any_of_loads}
use Rattle.ce_crew.proofs.Copies.{block_sums_agree, image_inside}
use Rattle.ce_crew.proofs.Grown.{actor_after-append, acts_of-append, steps-append, length-actor_after, AreOnEntries}
use Rattle.ce_crew.proofs.Grown.{SeesAs, sees_stay, on_entries-map}

pub greatest-append : (xs ys : List LogEntry)
    → greatest_relaxed (xs ++ ys) ≡ max (greatest_relaxed xs) (greatest_relaxed ys)
greatest-append [] ys = omega arith
greatest-append (x ∷ xs) ys = let rest = greatest-append xs ys in omega (arith, rest)

pub gains_none : (v : View) (xs : List ℕ) → Gains [] 0 v v xs xs
gains_none v xs = record {
  steps = [];
  view_is = ap (λ (log : List LogEntry). viewed v.run v.role (place v.place.part log) v.joined v.out)
      (sym (append-nil v.place.log));
  acts_are = refl;
  machine = tt;
  copy_is = refl;
  greatest_is = refl;
}

pub gains_then : (cs bs : List Act) (g h : ℕ) (u v w : View) (xs ys zs : List ℕ) → Gains cs g u v xs ys
    → Gains bs h v w ys zs → Gains (cs ++ bs) (max g h) u w xs zs
gains_then cs bs g h u v w xs ys zs one two =
    let P : View → Type 0 = λ x. Gains bs h x w ys zs in
    let next : Gains bs h (grown u one.steps) w ys zs = subst P one.view_is two in
    record {
      steps = one.steps ++ next.steps;
      view_is = next.view_is ∙ ap (λ (log : List LogEntry). viewed u.run u.role (place u.place.part log) u.joined
          u.out) (append_assoc u.place.log one.steps next.steps);
      acts_are = acts_of-append one.steps next.steps ∙ (λ i. one.acts_are i ++ next.acts_are i);
      machine = steps-append u.run (kept u.run u.place.log) one.steps next.steps one.machine
          (subst (λ (own : ActorState). AreMachineSteps u.run own next.steps)
          (actor_after-append _ u.place.log one.steps) next.machine);
      copy_is = next.copy_is ∙ (ap (λ (c : List ℕ). copied c next.steps) one.copy_is
          ∙ sym (copied-append xs one.steps next.steps));
      greatest_is = omega (arith, one.greatest_is, next.greatest_is, greatest-append one.steps next.steps);
    }

-- the same for pieces without a relaxed value
pub loads_then : (cs bs : List Act) (u v w : View) (xs ys zs : List ℕ) → Gains cs 0 u v xs ys → Gains bs 0 v w ys zs
    → Gains (cs ++ bs) 0 u w xs zs
loads_then cs bs u v w xs ys zs one two = gains_then cs bs 0 0 u v w xs ys zs one two

-- loops over a range
range_more : (a i : ℕ) → a ≤ i → range_with_len a (i + 1 - a) ≡ range_with_len a (i - a) ++ i ∷ []
range_more a i le =
    let n : i + 1 - a ≡ (i - a) + 1 = omega arith in let here : a + (i - a) ≡ i = omega arith in
    ap (range_with_len a) n ∙ (sym (map-id (range_with_len a (i - a + 1)))
    ∙ (map-range_with_len_more (λ (k : ℕ). k) a (i - a) i here ∙ ap (λ (l : List ℕ). l ++ i ∷ []) (map-id
    (range_with_len a (i - a)))))

pub gains_more : (f : ℕ → List Act) (a i g h : ℕ) (u v w : View) (xs ys zs : List ℕ) → a ≤ i
    → Gains (flat_map f (range_with_len a (i - a))) g u v xs ys → Gains (f i) h v w ys zs
    → Gains (flat_map f (range_with_len a ((i + 1) - a))) (max g h) u w xs zs
gains_more f a i g h u v w xs ys zs le one two =
    let e : flat_map f (range_with_len a (i - a)) ++ f i ≡ flat_map f (range_with_len a (i + 1 - a)) =
    flat_map_more f [] (range_with_len a (i - a)) i ∙ ap (flat_map f) (sym (range_more a i le)) in
    subst (λ (l : List Act). Gains l (max g h) u w xs zs) e (gains_then (flat_map f (range_with_len a (i - a)))
    (f i) g h u v w xs ys zs one two)

pub gains_map_start : (f : ℕ → Act) (a : ℕ) (v : View) (xs : List ℕ)
    → Gains (map f (range_with_len a (a - a))) 0 v v xs xs
gains_map_start f a v xs =
    let z : a - a ≡ 0 = omega arith in
    subst (λ (k : ℕ). Gains (map f (range_with_len a k)) 0 v v xs xs) (sym z) (gains_none v xs)

pub gains_map_more : (f : ℕ → Act) (a i : ℕ) (u v w : View) (xs ys zs : List ℕ) → a ≤ i
    → Gains (map f (range_with_len a (i - a))) 0 u v xs ys → Gains (f i ∷ []) 0 v w ys zs
    → Gains (map f (range_with_len a ((i + 1) - a))) 0 u w xs zs
gains_map_more f a i u v w xs ys zs le one two =
    let n : i + 1 - a ≡ (i - a) + 1 = omega arith in let here : a + (i - a) ≡ i = omega arith in
    let e : map f (range_with_len a (i + 1 - a)) ≡ map f (range_with_len a (i - a)) ++ f i ∷ [] =
    ap (λ (k : ℕ). map f (range_with_len a k)) n ∙ map-range_with_len_more f a (i - a) i here in
    subst (λ (l : List Act). Gains l 0 u w xs zs) (sym e) (gains_then (map f (range_with_len a (i - a))) (f i ∷ [])
    0 0 u v w xs ys zs one two)

-- A log keeps the length of the copy.
pub length_kept : (run : Run) (log : List LogEntry) → IsRunStart run → length (kept run log).copy ≡ length run.rows
length_kept run log start = length-actor_after _ log ∙ start.vector.each

module _ (v : View) (start : IsRunStart v.run) (steps : List LogEntry) (xs : List ℕ)
    (long : length xs ≡ length v.run.rows) where
  abbrev own : ActorState
  own = kept v.run v.place.log

  same_length : length xs ≡ length own.copy
  same_length = long ∙ sym (length_kept v.run v.place.log start)

  after : kept v.run (v.place.log ++ steps) ≡ actor_after own steps
  after = actor_after-append _ v.place.log steps

  copy_after : (kept v.run (v.place.log ++ steps)).copy ≡ copied own.copy steps
  copy_after = ap (λ (k : ActorState). k.copy) after ∙ copy_is_copied own steps

  -- What was loaded is the same in the private copy and in the log's.
  pub agrees_loaded : (e : ℕ) → e < length v.run.rows → AnyLoads e (acts_of steps)
      → slice_index (copied xs steps) e ≡ slice_index (kept v.run (v.place.log ++ steps)).copy e
  agrees_loaded e inside any =
      loaded_agree steps e xs own.copy same_length (omega (arith, inside, long)) any
      ∙ sym (ap (λ (c : List ℕ). slice_index c e) copy_after)

  -- What agreed before still does.
  pub agrees_still : (e : ℕ) → slice_index xs e ≡ slice_index own.copy e
      → slice_index (copied xs steps) e ≡ slice_index (kept v.run (v.place.log ++ steps)).copy e
  agrees_still e h =
      copies_agree steps e xs own.copy same_length h ∙ sym (ap (λ (c : List ℕ). slice_index c e) copy_after)

  pub sees_as_before : AreOnEntries (acts_of steps) → SeesAs (kept v.run (v.place.log ++ steps)) own
  sees_as_before on = subst (λ (k : ActorState). SeesAs k own) (sym after) (sees_stay own steps on)

  -- The relaxed value of the private copy is the one that the machine stores, once the entry and its
  -- images were loaded.
  pub relaxed_here : (i : ℕ) → i < length v.run.rows
      → acts_of steps ≡ Loads i ∷ loads_of (block_images v.run.rows v.run.ranks i)
      → relaxed v.run.exponent (slice_index (copied xs steps) i) (block_sum_of v.run.rows v.run.ranks
      (copied xs steps) i) own.low own.high
      ≡ carried (rows_of v.run) v.run.ranks (kept v.run (v.place.log ++ steps)) (Relaxes i)
  relaxed_here i inside acts =
      let now = kept v.run (v.place.log ++ steps) in
      let images = block_images v.run.rows v.run.ranks i in
      let entry : slice_index (copied xs steps) i ≡ slice_index now.copy i =
      agrees_loaded i inside (subst (AnyLoads i) (sym acts) (inl refl)) in
      let at : (j : ℕ) → Contains images j → slice_index (copied xs steps) j ≡ slice_index now.copy j =
      λ j c. agrees_loaded j (image_inside v.run.rows v.run.ranks start.scaled.rows i j inside c)
      (subst (AnyLoads j) (sym acts) (inr (any_of_loads images j c))) in
      let sum : block_sum_of v.run.rows v.run.ranks (copied xs steps) i
      ≡ block_sum_of v.run.rows v.run.ranks now.copy i =
      block_sums_agree v.run.rows v.run.ranks (copied xs steps) now.copy i at in
      let on : AreOnEntries (acts_of steps) = subst AreOnEntries (sym acts)
      (tt, on_entries-map (λ j. Loads j) (λ j. tt) images) in
      let sees = sees_as_before on in
      (λ k. relaxed v.run.exponent (entry k) (sum k) (sym sees.low k) (sym sees.high k))

-- One step more.
pub noted_grown : (v : View) (es : List LogEntry) (n : LogEntry) → noted (grown v es) n ≡ grown v (es ++ n ∷ [])
noted_grown v es n =
    ap (λ (log : List LogEntry). viewed v.run v.role (place v.place.part log) v.joined v.out)
    (append_assoc v.place.log es (n ∷ []))
