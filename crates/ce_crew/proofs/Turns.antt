-- The pieces of a turn together.
use Rattle.std.proofs.Common.{◌≡◌, ℕ, ◌<◌, inl, inr, Bool, false}
use Rattle.std.proofs.Common.{List, [], ◌∷◌, ◌++◌, map, length, slice_index, sym, refl, ap, ◌∙◌, subst, arith}
use Rattle.std.proofs.Common.{append_assoc}
use Rattle.std.specs.List.{flat_map}
use Rattle.std.proofs.lemmas.Bool.{cases_lt}
use Rattle.std.proofs.lemmas.Grind.{same_number_lists}
use Rattle.ce_cert.specs.declared.ends.Bounds.{Bounds}
use Rattle.ce_rows.specs.Actors.{ActorState, actor_after}
use Rattle.ce_rows.specs.Blocks.{block_images}
use Rattle.ce_rows.specs.declared.act.Act.{Act}
use Rattle.ce_rows.specs.declared.act.Act.TheVariants.{Loads, Relaxes, Shrinks, Raises, Lowers}
use Rattle.ce_rows.specs.declared.act.Act.TheVariants.{Asks}
use Rattle.ce_rows.specs.declared.act.LogEntry.{LogEntry}
use Rattle.ce_words.specs.Logs.{is_raise, is_lower}
use Rattle.ce_words.specs.Views.{kept, logged, viewed, place}
use Rattle.ce_words.specs.declared.view.Part.{Part}
use Rattle.ce_words.specs.declared.view.Run.{Run}
use Rattle.ce_words.specs.declared.view.View.{View}
use Rattle.ce_crew.specs.MachineSteps.{acts_of, AreMachineSteps}
use Rattle.ce_crew.specs.Turn.{great_entry, greatest_relaxed, loads_of, relaxing_acts, entries_between, opening_of}
use Rattle.ce_crew.specs.Turn.{IsRescaling, IsTurn}
use Rattle.ce_crew.specs.Gains.{copied, grown, Gains, GainsRescaling, Finishes, Opens, Offers, EndsOffering, IsRunStart}
use Rattle.ce_crew.proofs.BestVectors.{NoneIs, times_none}
use Rattle.ce_crew.proofs.Copies.{AnyLoads, any_of_loads, length-copied}
use Rattle.ce_crew.proofs.Gained.{gains_then, loads_then, agrees_loaded, length_kept}
use Rattle.ce_crew.proofs.Grown.{actor_after-append, steps-append}
use Rattle.ce_crew.proofs.Sweeps.{between_has}

grown_twice : (v : View) (xs ys : List LogEntry) → grown (grown v xs) ys ≡ grown v (xs ++ ys)
grown_twice v xs ys =
    ap (λ (log : List LogEntry). viewed v.run v.role (place v.place.part log) v.joined v.out)
    (append_assoc v.place.log xs ys)

-- steps of the machine, once it took others
next_steps : (v : View) (xs ys : List LogEntry) → AreMachineSteps v.run (kept v.run (v.place.log ++ xs)) ys
    → AreMachineSteps v.run (actor_after (kept v.run v.place.log) xs) ys
next_steps v xs ys steps =
    subst (λ (own : ActorState). AreMachineSteps v.run own ys) (actor_after-append _ v.place.log xs) steps

pub turn_goes_on : (run : Run) (p : Part) (made asked greatest count : ℕ) (v0 v1 v2 v3 v4 : View) (c0 c1 c2 c3 : List ℕ)
    → Gains (flat_map (relaxing_acts run) (entries_between p.from p.to)) greatest v0 v1 c0 c1
    → GainsRescaling p made asked greatest v1 v2 c1 c2
    → Gains (loads_of (entries_between 0 count)) 0 v2 v3 c2 c3 → count ≡ length run.rows
    → Gains (Raises ∷ Lowers ∷ []) 0 v3 v4 c3 c3
    → Finishes run p made asked v0 v4
turn_goes_on run p made asked greatest count v0 v1 v2 v3 v4 c0 c1 c2 c3 one two three all four =
    let last : Gains (loads_of (entries_between 0 count) ++ Raises ∷ Lowers ∷ []) 0 v2 v4 c2 c3 =
    loads_then (loads_of (entries_between 0 count)) (Raises ∷ Lowers ∷ []) v2 v3 v4 c2 c3 c3 three four in
    let xs : List LogEntry = one.steps in
    let second : Gains two.acts 0 (grown v0 xs) v2 c1 c2 = subst (λ (u : View). Gains two.acts 0 u v2 c1 c2)
    one.view_is two.gains in
    let ys : List LogEntry = second.steps in
    let P : View → Type 0 = λ u. Gains (loads_of (entries_between 0 count) ++ Raises ∷ Lowers ∷ []) 0 u v4 c2 c3 in
    let third : P (grown (grown v0 xs) ys) = subst P second.view_is last in
    let zs : List LogEntry = third.steps in
    let own = kept v0.run v0.place.log in
    record {
      relaxing = xs;
      rescaling = ys;
      closing = zs;
      view_is = third.view_is ∙ (grown_twice (grown v0 xs) ys zs ∙ grown_twice v0 xs (ys ++ zs));
      relaxes = one.acts_are;
      rescales = subst (λ (acts : List Act). IsRescaling p made asked (greatest_relaxed xs) acts)
          (sym second.acts_are) (subst (λ (g : ℕ). IsRescaling p made asked g two.acts) one.greatest_is two.rescales);
      closes = third.acts_are ∙ ap (λ (n : ℕ). loads_of (entries_between 0 n) ++ Raises ∷ Lowers ∷ []) all;
      machine = steps-append v0.run own xs (ys ++ zs) one.machine
          (next_steps v0 xs (ys ++ zs) (steps-append v0.run (kept v0.run (v0.place.log ++ xs)) ys zs second.machine
          (next_steps (grown v0 xs) ys zs third.machine)));
    }

-- An opening and what follows are a turn.
pub turn_is : (run : Run) (p : Part) (made low high asked : ℕ) (u v w : View) → u.run ≡ run → Opens low high asked u v
    → Finishes run p made asked v w
    → (turn : List LogEntry) × (w ≡ grown u turn) × ((t : IsTurn run p made (kept run u.place.log) turn)
    × (t.asked ≡ asked))
turn_is run p made low high asked u v w same o f =
    let g : Finishes run p made asked (grown u (opening_of low high asked)) w =
    subst (λ (x : View). Finishes run p made asked x w) o.view_is f in
    let rest : List LogEntry = g.relaxing ++ (g.rescaling ++ g.closing) in
    let turn : List LogEntry = opening_of low high asked ++ rest in
    let steps : AreMachineSteps u.run (kept u.run u.place.log) turn =
    steps-append u.run (kept u.run u.place.log) (opening_of low high asked) rest o.machine
    (next_steps u (opening_of low high asked) rest g.machine) in (
      turn,
      g.view_is ∙ grown_twice u (opening_of low high asked) rest,
      (
        record {
          low = low;
          high = high;
          asked = asked;
          relaxing = g.relaxing;
          rescaling = g.rescaling;
          closing = g.closing;
          parts = refl;
          apart = o.apart;
          relaxes = g.relaxes;
          rescales = g.rescales;
          closes = g.closes;
          steps = subst (λ (r : Run). AreMachineSteps r (kept r u.place.log) turn) same steps;
        },
        refl,
      ),
    )

-- Once the whole vector was loaded, the private copy is the log's.
pub all_loaded : (run : Run) (v w : View) (count : ℕ) (xs ys : List ℕ) → v.run ≡ run → IsRunStart run
    → length xs ≡ length run.rows → count ≡ length run.rows → Gains (loads_of (entries_between 0 count)) 0 v w xs ys
    → ys ≡ (kept run w.place.log).copy
all_loaded run v w count xs ys same start long all g =
    let P : Run → Type 0 = λ r. IsRunStart r → length xs ≡ length r.rows → count ≡ length r.rows → ys
    ≡ (kept r w.place.log).copy in
    let own : P v.run = λ s l n.
    let now = kept v.run (v.place.log ++ g.steps) in
    let at : (e : ℕ) → e < length (copied xs g.steps) → slice_index (copied xs g.steps) e ≡ slice_index now.copy e =
    λ e inside.
    let within : e < length v.run.rows = omega (arith, inside, length-copied xs g.steps, l) in
    agrees_loaded v s g.steps xs l e within (subst (AnyLoads e) (sym g.acts_are)
    (any_of_loads (entries_between 0 count) e (between_has 0 count e (omega arith) (omega (arith, within, n))))) in
    let same : copied xs g.steps ≡ now.copy = same_number_lists (copied xs g.steps) now.copy
    (length-copied xs g.steps ∙ (l ∙ sym (length_kept v.run (v.place.log ++ g.steps) s))) at in
    g.copy_is ∙ (same ∙ ap (λ (u : View). (kept v.run u.place.log).copy) (sym g.view_is)) in
    subst P same own start long all

-- Acts that certify nothing.
pub record CertifiesNothing (is : Act → Bool) : Type 0 where
  pub loads : (j : ℕ) → is (Loads j) ≡ false
  pub relaxes : (j : ℕ) → is (Relaxes j) ≡ false
  pub shrinks : (j : ℕ) → is (Shrinks j) ≡ false
  pub asks : is Asks ≡ false

pub raises_nothing : CertifiesNothing is_raise
raises_nothing = record { loads = λ j. refl; relaxes = λ j. refl; shrinks = λ j. refl; asks = refl }

pub lowers_nothing : CertifiesNothing is_lower
lowers_nothing = record { loads = λ j. refl; relaxes = λ j. refl; shrinks = λ j. refl; asks = refl }

pub none-append : (is : Act → Bool) (xs ys : List Act) → NoneIs is xs → NoneIs is ys → NoneIs is (xs ++ ys)
none-append is [] ys p q = q
none-append is (x ∷ xs) ys p q = (p.0, none-append is xs ys p.1 q)

none-map : (is : Act → Bool) (f : ℕ → Act) → ((j : ℕ) → is (f j) ≡ false) → (js : List ℕ) → NoneIs is (map f js)
none-map is f h [] = tt
none-map is f h (j ∷ js) = (h j, none-map is f h js)

none-flat_map : (is : Act → Bool) (f : ℕ → List Act) → ((j : ℕ) → NoneIs is (f j)) → (js : List ℕ)
    → NoneIs is (flat_map f js)
none-flat_map is f h [] = tt
none-flat_map is f h (j ∷ js) = none-append is (f j) (flat_map f js) (h j) (none-flat_map is f h js)

module _ (is : Act → Bool) (n : CertifiesNothing is) where
  pub none_in_loads : (js : List ℕ) → NoneIs is (loads_of js)
  none_in_loads js = none-map is (λ j. Loads j) n.loads js

  pub none_in_sweep : (run : Run) (js : List ℕ) → NoneIs is (flat_map (relaxing_acts run) js)
  none_in_sweep run js = none-flat_map is (relaxing_acts run)
      (λ i. let images = block_images run.rows run.ranks i in (
        n.loads i,
        none-append is (loads_of images)
            (Relaxes i ∷ []) (none_in_loads images) (n.relaxes i, tt),
      )) js

  pub none_in_rescaling : (p : Part) (made asked greatest : ℕ) (acts : List Act)
      → IsRescaling p made asked greatest acts → NoneIs is acts
  none_in_rescaling p made asked greatest acts r = elim (cases_lt made asked) [
    | inl less ↦ subst (NoneIs is) (sym (r.rescales less)) (none-map is (λ j. Shrinks j) n.shrinks
        (entries_between p.from p.to))
    | inr enough ↦ elim (cases_lt greatest great_entry) [
      | inl small ↦ subst (NoneIs is) (sym (r.rests enough small)) tt
      | inr great ↦ subst (NoneIs is) (sym (r.asks enough great)) (n.asks, tt)
    ]
  ]

-- A turn after its opening ends with an offer of the bounds of the copy.
pub offers_at_end : (run : Run) (b : Bounds) (p : Part) (made asked greatest count : ℕ) (v0 v1 v2 v3 v4 : View)
    (c0 c1 c2 c3 : List ℕ)
    → Gains (flat_map (relaxing_acts run) (entries_between p.from p.to)) greatest v0 v1 c0 c1
    → GainsRescaling p made asked greatest v1 v2 c1 c2
    → Gains (loads_of (entries_between 0 count)) 0 v2 v3 c2 c3
    → Offers b v3 v4 → c3 ≡ (kept run v3.place.log).copy
    → EndsOffering run b c3 v0.place.log v4.place.log
offers_at_end run b p made asked greatest count v0 v1 v2 v3 v4 c0 c1 c2 c3 one two three o copy =
    let sweep = flat_map (relaxing_acts run) (entries_between p.from p.to) in
    let loads = loads_of (entries_between 0 count) in
    let rest = loads_then two.acts loads v1 v2 v3 c1 c2 c3 two.gains three in
    let all = gains_then sweep (two.acts ++ loads) greatest 0 v0 v1 v3 c0 c1 c3 one rest in
    let log3 : v3.place.log ≡ v0.place.log ++ all.steps = ap (λ (u : View). u.place.log) all.view_is in
    let raise = logged Raises b.low o.raised in let lower = logged Lowers b.high o.lowered in
    let none : (is : Act → Bool) → CertifiesNothing is → NoneIs is (acts_of all.steps) =
    λ is n. subst (NoneIs is) (sym all.acts_are) (none-append is sweep (two.acts ++ loads)
    (none_in_sweep is n run (entries_between p.from p.to))
    (none-append is two.acts loads (none_in_rescaling is n p made asked greatest two.acts two.rescales)
    (none_in_loads is n (entries_between 0 count)))) in
    record {
      before = all.steps;
      raised = o.raised;
      lowered = o.lowered;
      log_is = ap (λ (u : View). u.place.log) o.view_is ∙ ap (λ (l : List LogEntry). (l ++ raise ∷ []) ++ lower
          ∷ []) log3;
      no_low = λ c. times_none is_raise c all.steps (none is_raise raises_nothing);
      no_high = λ c. times_none is_lower c all.steps (none is_lower lowers_nothing);
      copy_is = copy ∙ ap (λ (l : List LogEntry). (kept run l).copy) log3;
    }
