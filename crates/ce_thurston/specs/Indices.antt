-- The rows of an orbit under angle doubling: the case of degree 2.
use Rattle.std.specs.Prelude.{ℕ, List}
use Rattle.ce_rows.specs.Rows.{ScaledRows}
use Rattle.ce_rows.specs.declared.row.Row.{Row}
use Rattle.ce_orbit.specs.Orbit.{ForwardOrbit}
use Rattle.ce_thurston.specs.Pairs.{portrait_of}
use Rattle.ce_thurston.specs.PortraitRows.{HasIndexOn, pair_places_on, rows_on}
pub use Rattle.ce_thurston.specs.PortraitRows.{index_of, pairs_below}

abbrev pub HasIndex : ForwardOrbit → ℕ → ℕ × ℕ → Type 0
HasIndex o index pair = HasIndexOn (portrait_of o) index pair

abbrev pub pair_places : ForwardOrbit → List (ℕ × ℕ)
pair_places o = pair_places_on (portrait_of o)

abbrev pub rows_of_orbit : ForwardOrbit → List Row
rows_of_orbit o = rows_on (portrait_of o)

-- the rows of an orbit, at the scale with an exponent
abbrev pub rows_at : ForwardOrbit → ℕ → ScaledRows
rows_at o exponent = record { list = rows_of_orbit o; exponent = exponent }
