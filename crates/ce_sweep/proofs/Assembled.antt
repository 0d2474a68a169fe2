-- One run for each class gives each angle an answer.
use Rattle.std.proofs.Common.{◌≡◌, ◌<◌, ◌∙◌, ℕ, suc, List, [], ◌∷◌, length, get_or, sym, ap, subst, arith}
use Rattle.std.specs.Prelude.{All}
use Rattle.std.specs.List.{AllZip}
use Rattle.std.proofs.lemmas.List.Elements.{All-from_get_or}
use Rattle.ce_angle.specs.Fraction.{Fraction}
use Rattle.ce_orbit.specs.Kneading.{IsKey}
use Rattle.ce_orbit.specs.declared.key.KneadKey.{KneadKey}
use Rattle.ce_sweep.specs.Answers.{AreAlike, AreSolvedBy}
use Rattle.ce_sweep.specs.AnswersInside.{AreCopies, SolvesKey, StandsAt}
use Rattle.ce_solve.specs.SolvedAngle.{MayAnswer, MaySolve}
use Rattle.ce_solve.specs.SolvedRows.{closing_in}
use Rattle.ce_sweep.specs.Classes.{AreNumbered, IsKeyOfAngle, HaveSameKneading}
use Rattle.ce_solve.specs.declared.angle.Answer.{Answer}
use Rattle.ce_solve.specs.declared.settings.Settings.{Settings}
use Rattle.ce_solve.specs.declared.collecting.Solved.{Solved}
use Rattle.ce_sweep.proofs.ClassesOfKeys.{classes_from_keys}
use Rattle.ce_sweep.proofs.Zipped.{zip-at, zip-length}

-- lists of one length that are related place by place
pub zip_from : {X Y : Type 0} (R : X → Y → Type 0) (xs : List X) (ys : List Y) → length ys ≡ length xs
    → ((d : X) (e : Y) (i : ℕ) → i < length xs → R (get_or xs i d) (get_or ys i e)) → AllZip R xs ys
zip_from R [] [] long h = tt
zip_from R [] (y ∷ ys) long h = absurd (omega arith)
zip_from R (x ∷ xs) [] long h = absurd (omega arith)
zip_from R (x ∷ xs) (y ∷ ys) long h =
    (h x y 0 (omega arith), zip_from R xs ys (omega arith) (λ d e i within. h d e (suc i) (omega arith)))

-- an element of a list that has one
pub some_of : {X : Type 0} (xs : List X) → 0 < length xs → X
some_of [] h = absurd (omega arith)
some_of (x ∷ xs) h = x

-- Each first key of a class is a key.
pub leaders_are_keys : (angles : List Fraction) (keys leaders : List KneadKey) (first : List ℕ)
    → AllZip IsKeyOfAngle angles keys → AllZip (StandsAt keys) first leaders → All IsKey leaders
leaders_are_keys angles keys leaders first pairs stands =
    let none : KneadKey = record { preperiod = 0; period = 0; symbols = [] } in
    let no_angle : Fraction = record { num = 0; den = 0 } in
    let count = zip-length (StandsAt keys) first leaders stands in
    All-from_get_or IsKey leaders none (λ c within.
    let at = zip-at (StandsAt keys) first leaders c 0 none stands (omega arith) in
    let long = zip-length IsKeyOfAngle angles keys pairs in
    let less = at.within in
    let key = zip-at IsKeyOfAngle angles keys (get_or first c 0) no_angle none pairs (omega arith) in
    subst IsKey (at.here none) (record { orbit = key.orbit; is_orbit = key.is_orbit; is_key = key.is_key }))

module _ (settings : Settings) (angles : List Fraction) (keys leaders : List KneadKey) (of first : List ℕ)
    (solutions : List Solved) (pairs : AllZip IsKeyOfAngle angles keys) (numbers : AreNumbered keys of first)
    (stands : AllZip (StandsAt keys) first leaders) (solved : AllZip (SolvesKey settings) leaders solutions) where
  no_key : KneadKey
  no_key = record { preperiod = 0; period = 0; symbols = [] }

  long : length angles ≡ length keys
  long = zip-length IsKeyOfAngle angles keys pairs

  -- the key of a class's first angle is the key of each of its angles
  leader-same : (i : ℕ) → i < length angles → get_or leaders (get_or of i 0) no_key ≡ get_or keys i no_key
  leader-same i within =
      let all = long in
      let each = numbers.each in
      let class = numbers.below i (omega arith) in
      let at = zip-at (StandsAt keys) first leaders (get_or of i 0) 0 no_key stands class in
      let place = numbers.first_places (get_or of i 0) class in
      let inside = place.within in
      let alike = numbers.alike (get_or first (get_or of i 0) 0) i no_key (omega arith) (omega arith) in
      sym (at.here no_key) ∙ alike.0 place.here

  solves : (i : ℕ) (d : Fraction) (e : Solved) → i < length angles
      → MaySolve settings (get_or angles i d) (closing_in (get_or solutions (get_or of i 0) e))
  solves i d e within =
      let all = long in
      let each = numbers.each in
      let class = numbers.below i (omega arith) in
      let count = zip-length (StandsAt keys) first leaders stands in
      let key = zip-at IsKeyOfAngle angles keys i d no_key pairs within in
      let run = zip-at (SolvesKey settings) leaders solutions (get_or of i 0) no_key e solved (omega arith) in
      let here : SolvesKey settings (get_or keys i no_key) (get_or solutions (get_or of i 0) e) =
      subst (λ k. SolvesKey settings k (get_or solutions (get_or of i 0) e)) (leader-same i within) run in
      record {
        orbit = key.orbit;
        of_angle = key.of_angle;
        is_orbit = key.is_orbit;
        few = key.is_key.few;
        solution = here.serves key.orbit key.is_orbit key.is_key;
        readings = here.readings;
      }

  pub solved_by : AreSolvedBy settings angles of first solutions
  solved_by = record {
    classes = classes_from_keys angles keys of first pairs numbers;
    each = sym (zip-length (SolvesKey settings) leaders solutions solved) ∙ sym
        (zip-length (StandsAt keys) first leaders stands);
    solves = solves;
  }

-- Answers that are copies of the solutions of their classes.
module _ (settings : Settings) (angles : List Fraction) (of first : List ℕ) (solutions : List Solved)
    (h : AreSolvedBy settings angles of first solutions) where
  pub class_within : (i : ℕ) → i < length of → get_or of i 0 < length solutions
  class_within i within =
      let class = h.classes.below i within in
      let each = h.each in
      omega arith

  -- The solution of a class is that of its first angle.
  pub solves_first : (c : ℕ) (d : Fraction) (e : Solved) → c < length first
      → MaySolve settings (get_or angles (get_or first c 0) d) (closing_in (get_or solutions c e))
  solves_first c d e within =
      let place = h.classes.first_places c within in
      let inside = place.within in
      let each = h.classes.each in
      let may = h.solves (get_or first c 0) d e (omega arith) in
      let angle = get_or angles (get_or first c 0) d in
      subst (λ n. MaySolve settings angle (closing_in (get_or solutions n e))) place.here may

  module _ (answers : List Answer) (copies : AreCopies angles of solutions answers) where
    -- some solution, where there is an angle
    some : (i : ℕ) → i < length angles → Solved
    some i within =
        some_of solutions (let each = h.classes.each in let less = class_within i (omega arith) in omega arith)

    answer : (a : Fraction) (d : Answer) (i : ℕ) → i < length angles
        → MayAnswer settings (get_or angles i a) (get_or answers i d)
    answer a d i within =
        let e = some i within in
        let copy = copies.copies i d within in
        record {
          angle = copy.angle a;
          solved = subst (MaySolve settings (get_or angles i a)) (sym (copy.copied e)) (h.solves i a e within);
        }

    pub answers_may : AllZip (MayAnswer settings) angles answers
    answers_may = zip_from (MayAnswer settings) angles answers copies.each answer

    pub answers_alike : AreAlike answers
    answers_alike i j b left right same =
        let all = copies.each in
        let none : Fraction = record { num = 0; den = 0 } in
        let e = some i (omega arith) in
        let first_copy = copies.copies i b (omega arith) in
        let second_copy = copies.copies j b (omega arith) in
        let angles_alike = subst (λ y. HaveSameKneading (get_or angles i none) y) (second_copy.angle none)
        (subst (λ x. HaveSameKneading x (get_or answers j b).angle) (first_copy.angle none) same) in
        let one_class = (h.classes.alike i j none (omega arith) (omega arith)).1 angles_alike in
        first_copy.copied e ∙ ap (λ c. closing_in (get_or solutions c e)) one_class ∙ sym (second_copy.copied e)
