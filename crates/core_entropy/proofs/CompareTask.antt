-- The task of the command `compare`.
use Rattle.std.proofs.Common.{◌≡◌, ◌<◌, ◌⊎◌, ◌↔◌, ◌∙◌, inl, inr, ℕ, List, [], Option, refl, sym, subst}
use Rattle.std.proofs.lemmas.List.Elements.{All-nil}
use Rattle.ce_angle.specs.Fraction.{Fraction, IsAngle}
use Rattle.ce_atlas.specs.Relation.{AreEqual, high_of_answer, low_of_answer}
use Rattle.ce_atlas.specs.declared.relation.Relation.{Relation}
use Rattle.ce_atlas.specs.declared.relation.Relation.TheVariants.{Equal, Below, Above, Open}
use Rattle.ce_orbit.specs.Orbit.{HasOrbitAbove}
use Rattle.ce_rows.specs.Scale.{IsExponent}
use Rattle.ce_solve.specs.SolvedAngle.{MayAnswer}
use Rattle.ce_solve.specs.declared.angle.Answer.{Answer}
use Rattle.ce_solve.specs.declared.settings.Settings.{Settings}
use Rattle.ce_sweep.specs.Classes.{HaveSameKneading}
use Rattle.core_entropy.specs.Calls.{CallsFor}
use Rattle.ce_atlas.specs.Relation.{AreAlike}
use Rattle.core_entropy.specs.Compare.{AreCompared, HasLongOrbit, IsRelation, compare_line}
use Rattle.core_entropy.specs.Compare.{compare_task}
use Rattle.core_entropy.specs.Headline.{IsTrueClaim}
use Rattle.core_entropy.specs.Output.{HasEnded, Wrote}
use Rattle.core_entropy.specs.ProbeInside.{interval_in}
use Rattle.core_entropy.specs.Status.{IsCalledFor, IsEndOfAnswer}
use Rattle.core_entropy.specs.declared.status.Status.{Status}
use Rattle.core_entropy.specs.declared.status.Status.TheVariants.{Done, OrbitTooLong}
use Rattle.core_entropy.proofs.AngleTask.{long_or_not}
use Rattle.core_entropy.proofs.Ended.{answered, wrote_weaker}
use Rattle.core_entropy.proofs.ProbeTask.{initial_of}
use Rattle.core_entropy.proofs.Stages.{IsLawful, unless_called, unless_one, unless_some}

either_or_not : (P Q : Type 0) → P ⊎ (¬ P) → Q ⊎ (¬ Q) → (P ⊎ Q) ⊎ (¬ (P ⊎ Q))
either_or_not P Q (inl p) q = inl (inl p)
either_or_not P Q (inr none) (inl q) = inl (inr q)
either_or_not P Q (inr none) (inr neither) = inr (λ h. elim h [
  | inl p ↦ none p
  | inr q ↦ neither q
])

module _ (a b : Fraction) (rounds exponent : ℕ) where
  pub compare_lawful : IsAngle a → IsAngle b → IsLawful (compare_task rounds exponent a b)
  compare_lawful first second =
      let Next : Status → Type 0 = λ s. s ≡ Done in
      let test =
      either_or_not (HasOrbitAbove 128 a) (HasOrbitAbove 128 b) (long_or_not a first) (long_or_not b second) in
      record {
        some = λ input. unless_some (HasLongOrbit a b) OrbitTooLong Next test (λ none. (Done, refl));
        one = λ input. unless_one (HasLongOrbit a b) OrbitTooLong Next (λ s t h k. h ∙ sym k);
        called = λ input. unless_called (HasLongOrbit a b) OrbitTooLong Next tt (λ s h. subst IsCalledFor (sym h) tt);
        true = λ input text is. ([], refl, All-nil IsTrueClaim);
      }

  -- How a comparison ended.
  module _ {O : Type 0} (taken : O → Option (List ℕ)) (faults : O → ℕ) (old now : O) (s : Status) where
    pub compare_ended : (relation : Relation) → AreCompared a b rounds exponent relation → ¬ (HasLongOrbit a b)
        → IsEndOfAnswer Done s → Wrote taken faults (λ text. text ≡ compare_line a b relation) s old now
        → HasEnded taken faults (compare_task rounds exponent a b) [] s old now
    compare_ended relation compared short end wrote =
        let task = compare_task rounds exponent a b in
        let calls : CallsFor task [] Done = inr (λ none. none, inr (short, refl)) in
        let IsText : List ℕ → Type 0 = λ text. text ≡ compare_line a b relation in
        answered taken faults task [] Done old now (λ none. none) calls s end
        (wrote_weaker taken faults old now IsText (task.Writes [])
        (λ text spelled. record { relation = relation; compared = compared; spelled = spelled }) s wrote)

-- What the ends of two answers say of their angles.
module _ (x y : Answer) (a b : Fraction) (of_first : x.angle ≡ a) (of_second : y.angle ≡ b) where
  alike : AreEqual x y → AreAlike a b (interval_in x) (interval_in y)
  alike (inl kneading) =
      inl (subst (λ f. HaveSameKneading a f) of_second (subst (λ f. HaveSameKneading f y.angle) of_first kneading))
  alike (inr ends) = inr ends

  equal : AreAlike a b (interval_in x) (interval_in y) → AreEqual x y
  equal (inl kneading) =
      inl (subst (λ f. HaveSameKneading x.angle f) (sym of_second)
      (subst (λ f. HaveSameKneading f b) (sym of_first) kneading))
  equal (inr ends) = inr ends

  pub relation_is : (r : Relation) → (r ≡ Equal) ↔ AreEqual x y → (r ≡ Below) ↔ (high_of_answer x < low_of_answer y)
      → (r ≡ Above) ↔ (high_of_answer y < low_of_answer x) → IsRelation a b (interval_in x) (interval_in y) r
  relation_is Equal same below above = alike (same.0 refl)
  relation_is Below same below above = below.0 refl
  relation_is Above same below above = above.0 refl
  relation_is Open same below above = (
    λ are. let other = same.1 (equal are) in cc,
    (λ less. let other = below.1 less in cc, λ more. let other = above.1 more in cc),
  )

module _ (settings : Settings) (still : settings.turns ≡ 0) (known : IsExponent settings.scale)
    (a b : Fraction) (x y : Answer) (first : MayAnswer settings a x) (second : MayAnswer settings b y) where
  pub are_compared : (r : Relation) → (r ≡ Equal) ↔ AreEqual x y → (r ≡ Below) ↔ (high_of_answer x < low_of_answer y)
      → (r ≡ Above) ↔ (high_of_answer y < low_of_answer x) → AreCompared a b settings.rounds settings.scale r
  are_compared r same below above = record {
    first = interval_in x;
    second = interval_in y;
    first_is = initial_of settings still known a x first;
    second_is = initial_of settings still known b y second;
    is = relation_is x y a b first.angle second.angle r same below above;
  }
