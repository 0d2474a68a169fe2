-- The command `compare`: how two angles stand to each other. Source: this project's choice.
use Rattle.std.specs.Prelude.{◌≡◌, ◌<◌, ◌⊎◌, ℕ, List, [], ◌++◌, None, codes, ⊤}
use Rattle.ce_angle.specs.Fraction.{Fraction}
use Rattle.ce_atlas.specs.Relation.{AreAlike}
use Rattle.ce_atlas.specs.declared.relation.Relation.{Relation}
use Rattle.ce_atlas.specs.declared.relation.Relation.TheVariants.{Equal, Below, Above, Open}
use Rattle.ce_orbit.specs.Orbit.{HasOrbitAbove}
use Rattle.ce_rows.specs.declared.interval.Interval.{Interval}
use Rattle.ce_solve.specs.declared.angle.SolveError.{SolveError}
use Rattle.ce_solve.specs.declared.angle.SolveError.TheVariants as error
use Rattle.core_entropy.specs.Probe.{IsInitialOf}
use Rattle.core_entropy.specs.Task.{Task, Unless}
use Rattle.ce_angle.specs.Spelled.{ended, fraction_text}
use Rattle.core_entropy.specs.declared.status.Status.TheVariants.{Done, OrbitTooLong}
use Rattle.ce_orbit.specs.Iterates.{most_places}

abbrev pub relation_word : Relation → List ℕ
relation_word Equal = codes "equal"
relation_word Below = codes "below"
relation_word Above = codes "above"
relation_word Open = codes "open"

-- `compare P/Q P/Q RELATION`
abbrev pub compare_line : Fraction → Fraction → Relation → List ℕ
compare_line a b relation =
    ended (codes "compare " ++ fraction_text a ++ codes " " ++ fraction_text b ++ codes " " ++ relation_word relation)

-- how angles with these intervals stand to each other
abbrev pub IsRelation : Fraction → Fraction → Interval → Interval → Relation → Type 0
IsRelation a b i j Equal = AreAlike a b i j
IsRelation a b i j Below = i.high < j.low
IsRelation a b i j Above = j.high < i.low
IsRelation a b i j Open = (¬ (AreAlike a b i j)) × ((¬ (i.high < j.low)) × (¬ (j.high < i.low)))

-- Two angles stand to each other so by their initial enclosures.
pub record AreCompared (a b : Fraction) (rounds exponent : ℕ) (relation : Relation) : Type 0 where
  pub first : Interval
  pub second : Interval
  pub first_is : IsInitialOf rounds exponent a first
  pub second_is : IsInitialOf rounds exponent b second
  pub is : IsRelation a b first second relation

-- A text tells how two angles stand to each other.
pub record IsCompareText (a b : Fraction) (rounds exponent : ℕ) (text : List ℕ) : Type 0 where
  pub relation : Relation
  pub compared : AreCompared a b rounds exponent relation
  pub spelled : text ≡ compare_line a b relation

-- An orbit of the two has more than 128 angles.
abbrev pub HasLongOrbit : Fraction → Fraction → Type 0
HasLongOrbit a b = HasOrbitAbove most_places a ⊎ HasOrbitAbove most_places b

-- why two angles are not compared
abbrev pub IsCauseOf : Fraction → Fraction → SolveError → Type 0
IsCauseOf a b error.OrbitTooLong = HasLongOrbit a b
IsCauseOf a b error.NoMemory = ⊤

abbrev pub compare_task : ℕ → ℕ → Fraction → Fraction → Task
compare_task rounds exponent a b = record {
  limit = None;
  Ends = λ input. Unless (HasLongOrbit a b) OrbitTooLong (λ s. s ≡ Done);
  Writes = λ input text. IsCompareText a b rounds exponent text;
  Claims = λ input text claims. claims ≡ [];
}
