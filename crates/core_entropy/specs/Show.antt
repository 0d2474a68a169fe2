-- The command `show`: an orbit with its kneading sequence and its transition matrix. Source: this
-- project's choice.
use Rattle.std.specs.Prelude.{◌≡◌, ℕ, List, [], ◌∷◌, ◌++◌, None, length, codes}
use Rattle.std.specs.Fmt.{decimal}
use Rattle.std.specs.List.{flat_map}
use Rattle.ce_angle.specs.Fraction.{Fraction}
use Rattle.ce_angle.specs.LowestTerms.{in_lowest_terms}
use Rattle.ce_orbit.specs.Orbit.{ForwardOrbit, IsForwardOrbit, HasOrbitAbove, period_of}
use Rattle.ce_orbit.specs.Symbols.{symbol_of, symbol_text}
use Rattle.ce_rows.specs.Rows.{row_at, targets_of}
use Rattle.ce_rows.specs.declared.row.Row.{Row}
use Rattle.ce_thurston.specs.Indices.{index_of, pair_places, rows_of_orbit}
use Rattle.core_entropy.specs.Task.{Task, Unless}
use Rattle.ce_angle.specs.Spelled.{ended, fraction_text}
use Rattle.core_entropy.specs.declared.status.Status.TheVariants.{Done, OrbitTooLong}
use Rattle.ce_orbit.specs.Iterates.{most_places}

-- words, each after a space
abbrev pub spaced : {X : Type 0} → (X → List ℕ) → List X → List ℕ
spaced word xs = flat_map (λ x. 32 ∷ word x) xs

abbrev pub angle_heading : Fraction → List ℕ
angle_heading angle = ended (codes "angle " ++ fraction_text angle)

abbrev pub cycle_line : ForwardOrbit → List ℕ
cycle_line o = ended (codes "preperiod " ++ decimal o.preperiod ++ codes " period " ++ decimal (period_of o))

-- the angle of a numerator of an orbit, in lowest terms
abbrev pub place_text : ForwardOrbit → ℕ → List ℕ
place_text o x = fraction_text (in_lowest_terms (record { num = x; den = o.angle.den }))

abbrev pub orbit_line : ForwardOrbit → List ℕ
orbit_line o = ended (codes "orbit" ++ spaced (place_text o) o.places)

abbrev pub symbols_line : ForwardOrbit → List ℕ
symbols_line o = ended (codes "symbols" ++ spaced (λ x. symbol_text (symbol_of o.angle x)) o.places)

abbrev pub pairs_line : ForwardOrbit → List ℕ
pairs_line o = ended (codes "pairs " ++ decimal (length (rows_of_orbit o)))

-- `row K pair I J to` and the row's successors
abbrev pub row_line : ℕ → ℕ × ℕ → Row → List ℕ
row_line k pair row =
    ended (codes "row " ++ decimal k ++ codes " pair " ++ decimal pair.0 ++ codes " " ++ decimal pair.1
    ++ codes " to" ++ spaced decimal (targets_of row))

-- the row of a pair of places
abbrev pub pair_line : ForwardOrbit → ℕ × ℕ → List ℕ
pair_line o pair =
    let k = index_of pair.0 pair.1 in row_line k pair (row_at (rows_of_orbit o) k)

abbrev pub rows_text : ForwardOrbit → List ℕ
rows_text o = flat_map (pair_line o) (pair_places o)

-- the lines before the rows
abbrev pub head_text : ForwardOrbit → List ℕ
head_text o = angle_heading o.angle ++ cycle_line o ++ orbit_line o ++ symbols_line o ++ pairs_line o

abbrev pub show_text : ForwardOrbit → List ℕ
show_text o = head_text o ++ rows_text o

-- A text shows the orbit of an angle.
pub record IsShowText (angle : Fraction) (text : List ℕ) : Type 0 where
  pub orbit : ForwardOrbit
  pub is_orbit : IsForwardOrbit orbit
  pub of_angle : orbit.angle ≡ angle
  pub spelled : text ≡ show_text orbit

abbrev pub show_task : Fraction → Task
show_task angle = record {
  limit = None;
  Ends = λ input. Unless (HasOrbitAbove most_places angle) OrbitTooLong (λ s. s ≡ Done);
  Writes = λ input text. IsShowText angle text;
  Claims = λ input text claims. claims ≡ [];
}
