-- The task of the command `probe`.
use Rattle.std.proofs.Common.{◌≡◌, ◌≢◌, ◌<◌, ◌≤◌, ◌+◌, ◌-◌, ◌*◌, ◌^◌, ◌==◌, ◌++◌, get_or, take, ◌∷◌, ◌∙◌, ℕ, suc}
use Rattle.std.proofs.Common.{Bool, true, false, List, [], Result, String, Global, length, map, refl, sym, ap, subst}
use Rattle.std.proofs.Common.{arith, string_bytes}
use Rattle.std.specs.Prelude.{All, IfOk, max, min, sum_by}
use Rattle.std.specs.List.{AllZip}
use Rattle.std.proofs.lemmas.Grind.{fold-append}
use Rattle.std.proofs.Math.ListN.{get_or-map}
use Rattle.std.proofs.lemmas.Bool.Decides.{nat_tests}
use Rattle.std.proofs.lemmas.List.{length-map, length-take, map-append, take_more}
use Rattle.std.proofs.lemmas.List.Elements.{All-cons, All-get_or, All-nil}
use Rattle.std.proofs.lemmas.List.FromFn.{length-map-range_with_len}
use Rattle.std.proofs.lemmas.List.Sums.{sum_by-append}
use Rattle.std.proofs.lemmas.Result.{IfOk-weaker}
use Rattle.ce_angle.specs.Fraction.{Fraction}
use Rattle.ce_cert.specs.Quotients.{greatest, least}
use Rattle.ce_comp.proofs.Rankings.{numbering_is_ranking}
use Rattle.ce_log2.specs.Squaring.{bits_above_of, bits_below_of}
use Rattle.ce_orbit.proofs.Unique.{one_orbit}
use Rattle.ce_rows.specs.Rows.{AreScaledRows, ScaledRows}
use Rattle.ce_rows.specs.Scale.{IsExponent}
use Rattle.ce_rows.specs.declared.interval.Interval.{Interval}
use Rattle.ce_rows.specs.declared.no_memory.NoMemory.{NoMemory}
use Rattle.ce_rows.proofs.Rates.{low_at_most_high_of_rows}
use Rattle.ce_solve.specs.SolvedAngle.{MayAnswer}
use Rattle.ce_solve.specs.SolvedRows.{IsSolved, closing_in}
use Rattle.ce_solve.specs.declared.angle.Answer.{Answer}
use Rattle.ce_solve.specs.declared.settings.Settings.{Settings}
use Rattle.ce_sweep.specs.Probe.{probe_angle_of, probe_angles_of}
use Rattle.ce_thurston.specs.Indices.{rows_at}
use Rattle.ce_thurston.proofs.OrbitRows.{rows_in_range}
use Rattle.core_entropy.specs.InitialEnclosure.{IsInitialEnclosure}
use Rattle.core_entropy.specs.Headline.{IsTrueClaim}
use Rattle.core_entropy.specs.Probe.{IsInitialOf, IsProbeText, highs, lows, probe_task, probe_text, summary_of, widths}
use Rattle.core_entropy.specs.ProbeInside.{IsOneToTwo, interval_in, intervals_in, least_with, summary_with}
use Rattle.core_entropy.specs.Status.{IsCalledFor}
use Rattle.core_entropy.specs.declared.commands.probe.Summary.{Summary}
use Rattle.core_entropy.specs.declared.status.Status.TheVariants.{Done}
use Rattle.core_entropy.proofs.Enclosed.{initial_encloses}
use Rattle.ce_solve.proofs.FloorEnds.{floor_high, floor_low}
use Rattle.core_entropy.proofs.OneText.{closing_is_initial, one_enclosure}
use Rattle.core_entropy.proofs.Stages.{IsLawful}

-- Two lists beside each other.
module _ {X Y Z : Type 0} (R : X → Y → Type 0) where
  zip_map : (S : X → Z → Type 0) (f : Y → Z) → ((x : X) (y : Y) → R x y → S x (f y)) → (xs : List X) (ys : List Y)
      → AllZip R xs ys → AllZip S xs (map f ys)
  zip_map S f weaker [] [] h = h
  zip_map S f weaker [] (y ∷ ys) h = absurd h
  zip_map S f weaker (x ∷ xs) [] h = absurd h
  zip_map S f weaker (x ∷ xs) (y ∷ ys) h = (weaker x y h.0, zip_map S f weaker xs ys h.1)

  zip_all : (P : Z → Type 0) (f : Y → Z) → ((x : X) (y : Y) → R x y → P (f y)) → (xs : List X) (ys : List Y)
      → AllZip R xs ys → All P (map f ys)
  zip_all P f weaker [] [] h = All-nil P
  zip_all P f weaker [] (y ∷ ys) h = absurd h
  zip_all P f weaker (x ∷ xs) [] h = absurd h
  zip_all P f weaker (x ∷ xs) (y ∷ ys) h = All-cons P (f y) (map f ys) (weaker x y h.0) (zip_all P f weaker xs ys h.1)

zip_same : {X Y : Type 0} (R : X → Y → Type 0) → ((x : X) (y z : Y) → R x y → R x z → y ≡ z)
    → (xs : List X) (ys zs : List Y) → AllZip R xs ys → AllZip R xs zs → ys ≡ zs
zip_same R one [] [] [] h k = refl
zip_same R one [] (y ∷ ys) zs h k = absurd h
zip_same R one [] [] (z ∷ zs) h k = absurd k
zip_same R one (x ∷ xs) [] zs h k = absurd h
zip_same R one (x ∷ xs) (y ∷ ys) [] h k = absurd k
zip_same R one (x ∷ xs) (y ∷ ys) (z ∷ zs) h k =
    let first = one x y z h.0 k.0 in
    let rest = zip_same R one xs ys zs h.1 k.1 in
    λ i. first i ∷ rest i

-- One interval more.
least_step : (first : Bool) (xs : List ℕ) (x : ℕ) → (first ≡ true → length xs ≡ 0) → (first ≡ false → length xs ≢ 0)
    → least_with first (least xs) x ≡ least (xs ++ x ∷ [])
unfolding least
least_step true [] x none some = refl
least_step true (y ∷ ys) x none some = absurd (omega (arith, none refl))
least_step false [] x none some = absurd (some refl refl)
least_step false (y ∷ ys) x none some = sym (fold-append min y ys (x ∷ []))

greatest_step : (xs : List ℕ) (x : ℕ) → max (greatest xs) x ≡ greatest (xs ++ x ∷ [])
unfolding greatest
greatest_step xs x = sym (fold-append max 0 xs (x ∷ []))

sum_step : (f : ℕ → ℕ) (xs : List ℕ) (x : ℕ) → sum_by f xs + f x ≡ sum_by f (xs ++ x ∷ [])
sum_step f xs x = let more = sum_by-append f xs (x ∷ []) in omega (arith, more)

module _ (exponent : ℕ) (first : Bool) (xs : List Interval) (x : Interval) (none : first ≡ true → length xs ≡ 0)
    (some : first ≡ false → length xs ≢ 0) where
  low_more : lows (xs ++ x ∷ []) ≡ lows xs ++ x.low ∷ []
  low_more = map-append (λ (i : Interval). i.low) xs (x ∷ [])

  high_more : highs (xs ++ x ∷ []) ≡ highs xs ++ x.high ∷ []
  high_more = map-append (λ (i : Interval). i.high) xs (x ∷ [])

  width_more : widths (xs ++ x ∷ []) ≡ widths xs ++ (x.high - x.low) ∷ []
  width_more = map-append (λ (i : Interval). i.high - i.low) xs (x ∷ [])

  long : {Y : Type 0} (f : Interval → Y) → length (map f xs) ≡ length xs
  long f = length_map f xs
    where
      length_map : {Y : Type 0} (f : Interval → Y) (xs : List Interval) → length (map f xs) ≡ length xs
      length_map f [] = refl
      length_map f (x ∷ xs) = ap suc (length_map f xs)

  pub summary_more : summary_with exponent first (summary_of exponent xs) x ≡ summary_of exponent (xs ++ x ∷ [])
  summary_more =
      let a = least_step first (lows xs) x.low (λ is. long (λ i. i.low) ∙ none is)
      (λ is none. some is (sym (long (λ i. i.low)) ∙ none)) ∙ ap least (sym low_more) in
      let b = greatest_step (lows xs) x.low ∙ ap greatest (sym low_more) in
      let c = least_step first (highs xs) x.high (λ is. long (λ i. i.high) ∙ none is)
      (λ is none. some is (sym (long (λ i. i.high)) ∙ none)) ∙ ap least (sym high_more) in
      let d = greatest_step (highs xs) x.high ∙ ap greatest (sym high_more) in
      let e = greatest_step (widths xs) (x.high - x.low) ∙ ap greatest (sym width_more) in
      let f = sum_step (bits_below_of exponent) (lows xs) x.low ∙ ap (sum_by (bits_below_of exponent)) (sym low_more) in
      let g = sum_step (bits_above_of exponent) (highs xs) x.high
      ∙ ap (sum_by (bits_above_of exponent)) (sym high_more) in
      λ i. record {
        low_least = a i;
        low_greatest = b i;
        high_least = c i;
        high_greatest = d i;
        widest = e i;
        bits_below = f i;
        bits_above = g i;
      }

pub summary_none : (exponent : ℕ)
    → (let s : Summary = record {
      low_least = 0;
      low_greatest = 0;
      high_least = 0;
      high_greatest = 0;
      widest = 0;
      bits_below = 0;
      bits_above = 0;
    } in s) ≡ summary_of exponent []
unfolding least greatest
summary_none exponent = refl

-- Initial enclosures lie from one to two.
pub one_to_two : (rows : ScaledRows) (rounds : ℕ) (interval : Interval)
    → IsInitialEnclosure rows rounds interval → IsOneToTwo rows.exponent interval
one_to_two rows rounds interval h =
    let ranking = numbering_is_ranking rows.list h.ranks h.numbering in
    let encloses = initial_encloses rows rounds interval h in
    record {
      one = subst (λ n. 2 ^ rows.exponent ≤ n) (sym h.bounds.low) (floor_low rows h.are_rows h.ranks ranking rounds);
      ordered = low_at_most_high_of_rows rows interval.low interval.high encloses.below encloses.above;
      two = subst (λ n. n ≤ 2 * 2 ^ rows.exponent) (sym h.bounds.high)
          (floor_high rows h.are_rows h.ranks ranking rounds);
    }

module _ (settings : Settings) (still : settings.turns ≡ 0) (known : IsExponent settings.scale) where
  pub initial_of : (angle : Fraction) (answer : Answer) → MayAnswer settings angle answer
      → IsInitialOf settings.rounds settings.scale angle (interval_in answer)
  initial_of angle answer may =
      let s = may.solved in
      let rows = rows_at s.orbit settings.scale in
      let are : AreScaledRows rows = record { rows = rows_in_range s.orbit s.is_orbit s.few; scale = known } in
      record {
        orbit = s.orbit;
        is_orbit = s.is_orbit;
        of_angle = s.of_angle;
        initial = closing_is_initial rows settings.rounds settings.workers (closing_in answer.solved) are
            (subst (λ t. IsSolved rows settings.rounds t settings.workers (closing_in answer.solved)) still s.solution);
      }

  answer_bounded : (angle : Fraction) (answer : Answer) → MayAnswer settings angle answer
      → IsOneToTwo settings.scale (interval_in answer)
  answer_bounded angle answer may =
      let initial = initial_of angle answer may in
      one_to_two (rows_at initial.orbit settings.scale) settings.rounds (interval_in answer) initial.initial

  module _ (angles : List Fraction) (answers : List Answer) (each : AllZip (MayAnswer settings) angles answers) where
    pub all_bounded : All (IsOneToTwo settings.scale) (intervals_in answers)
    all_bounded = zip_all (MayAnswer settings) (IsOneToTwo settings.scale) interval_in
        answer_bounded angles answers each

    pub all_initial : AllZip (IsInitialOf settings.rounds settings.scale) angles (intervals_in answers)
    all_initial = zip_map (MayAnswer settings) (IsInitialOf settings.rounds settings.scale) interval_in
        initial_of angles answers each

pub zip_long : {X Y : Type 0} (R : X → Y → Type 0) (xs : List X) (ys : List Y) → AllZip R xs ys → length ys ≡ length xs
zip_long R [] [] h = refl
zip_long R [] (y ∷ ys) h = absurd h
zip_long R (x ∷ xs) [] h = absurd h
zip_long R (x ∷ xs) (y ∷ ys) h = ap suc (zip_long R xs ys h.1)

-- An angle has one initial enclosure.
pub one_initial : (rounds exponent : ℕ) (angle : Fraction) (i j : Interval) → IsInitialOf rounds exponent angle i
    → IsInitialOf rounds exponent angle j → i ≡ j
one_initial rounds exponent angle i j h k =
    let orbit = one_orbit h.orbit k.orbit h.is_orbit k.is_orbit (h.of_angle ∙ sym k.of_angle) in
    one_enclosure (rows_at h.orbit exponent) rounds i j h.initial
    (subst (λ o. IsInitialEnclosure (rows_at o exponent) rounds j) (sym orbit) k.initial)

module _ (start count rounds exponent : ℕ) where
  pub probe_lawful : IsLawful (probe_task start count rounds exponent)
  probe_lawful = record {
    some = λ input. (Done, refl);
    one = λ input s t h k. h ∙ sym k;
    called = λ input s h. subst IsCalledFor (sym h) tt;
    true = λ input text is. ([], refl, All-nil IsTrueClaim);
  }

  pub probe_spelled : (intervals : List Interval)
      → AllZip (IsInitialOf rounds exponent) (probe_angles_of start count) intervals
      → (r : Result (String Global) NoMemory)
      → IfOk r (λ text. string_bytes text ≡ probe_text start count rounds exponent (summary_of exponent intervals))
      → IfOk r (λ text. IsProbeText start count rounds exponent (string_bytes text))
  probe_spelled intervals each r spelled =
      IfOk-weaker r _ _ (λ text is. record { intervals = intervals; each = each; spelled = is }) spelled

  pub one_probe : (text other : List ℕ) → IsProbeText start count rounds exponent text
      → IsProbeText start count rounds exponent other → text ≡ other
  one_probe text other h k =
      let same = zip_same (IsInitialOf rounds exponent) (one_initial rounds exponent) (probe_angles_of start count)
      h.intervals k.intervals h.each k.each in
      h.spelled ∙ ap (λ is. probe_text start count rounds exponent (summary_of exponent is)) same ∙ sym k.spelled

-- One answer more.
module _ (exponent : ℕ) (answers : List Answer) (i : ℕ) (a : Answer) (interval : Interval) (within : i < length answers)
    (here : a ≡ get_or answers i a) (is : interval ≡ interval_in a) where
  pub summed_more : (first : Bool) (s next : Summary) → first ≡ (i == 0)
      → s ≡ summary_of exponent (intervals_in (take i answers)) → next ≡ summary_with exponent first s interval
      → next ≡ summary_of exponent (intervals_in (take (i + 1) answers))
  summed_more first s next test sum more =
      let xs = intervals_in (take i answers) in
      let long : length xs ≡ i = length-map (take i answers) interval_in ∙ length-take i answers
      ∙ omega (arith, within) in
      let none : first ≡ true → length xs ≡ 0 = λ h. grind (arith, nat_tests, long, test, h) in
      let some : first ≡ false → length xs ≢ 0 = λ h. grind (arith, nat_tests, long, test, h) in
      let grown : intervals_in (take (i + 1) answers) ≡ xs ++ interval ∷ [] =
      ap intervals_in (take_more answers i a within ∙ ap (λ x. take i answers ++ x ∷ []) (sym here))
      ∙ map-append interval_in (take i answers) (a ∷ []) ∙ ap (λ x. xs ++ x ∷ []) (sym is) in
      more ∙ ap (λ t. summary_with exponent first t interval) sum ∙ summary_more exponent first xs interval none some
      ∙ ap (summary_of exponent) (sym grown)

  pub one_bounded : All (IsOneToTwo exponent) (intervals_in answers) → IsOneToTwo exponent interval
  one_bounded all =
      let inside : i < length (intervals_in answers) = omega (arith, within, length-map answers interval_in) in
      let at = All-get_or (IsOneToTwo exponent) (intervals_in answers) i (interval_in a) inside all in
      subst (IsOneToTwo exponent) (get_or-map interval_in answers i a ∙ ap interval_in (sym here) ∙ sym is) at

-- The answers of a probe.
module _ (settings : Settings) (still : settings.turns ≡ 0) (known : IsExponent settings.scale) (start count : ℕ)
    (answers handed : List Answer)
    (each : AllZip (MayAnswer settings) (probe_angles_of start count) answers) (given : handed ≡ answers) where
  pub probe_few : count ≤ 10000 → length handed ≤ 10000
  probe_few most =
      let long = zip_long (MayAnswer settings) (probe_angles_of start count) answers each in
      let angles = length-map-range_with_len (probe_angle_of start) 0 count in
      omega (arith, ap length given, long, angles, most)

  pub probe_bounded : All (IsOneToTwo settings.scale) (intervals_in handed)
  probe_bounded = subst (λ l. All (IsOneToTwo settings.scale) (intervals_in l)) (sym given)
      (all_bounded settings still known (probe_angles_of start count) answers each)

  pub probe_is : (exponent : ℕ) (summary : Summary) → exponent ≡ settings.scale
      → summary ≡ summary_of settings.scale (intervals_in handed) → (r : Result (String Global) NoMemory)
      → IfOk r (λ text. string_bytes text ≡ probe_text start count settings.rounds exponent summary)
      → IfOk r (λ text. IsProbeText start count settings.rounds settings.scale (string_bytes text))
  probe_is exponent summary same sum r spelled =
      let total : summary ≡ summary_of settings.scale (intervals_in answers) = sum
      ∙ ap (λ l. summary_of settings.scale (intervals_in l)) given in
      probe_spelled start count settings.rounds settings.scale (intervals_in answers)
      (all_initial settings still known (probe_angles_of start count) answers each) r
      (IfOk-weaker r _ _ (λ text is. is ∙ λ i. probe_text start count settings.rounds (same i) (total i)) spelled)
