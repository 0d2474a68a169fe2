-- The kneading sequence of an angle, its part up to the first repeat of the orbit, which with
-- preperiod and period determines it, and keys that hold that part.
-- Sources: [LauSchleicher1994], [Gao2020]; the key is this project's choice.
use Rattle.std.specs.Prelude.{◌≡◌, ◌≤◌, ℕ, ◌+◌, ◌-◌, List, ◌++◌, length, map, replicate, take}
use Rattle.ce_angle.specs.Fraction.{Fraction}
use Rattle.ce_orbit.specs.Orbit.{ForwardOrbit, IsForwardOrbit, numerator_at, period_of}
use Rattle.ce_orbit.specs.Symbols.{symbol_of}
use Rattle.ce_orbit.specs.declared.symbol.Symbol.{Symbol}
use Rattle.ce_orbit.specs.declared.symbol.Symbol.TheVariants.{Zero}
use Rattle.ce_orbit.specs.declared.key.KneadKey.{KneadKey}
use Rattle.ce_orbit.specs.Iterates.{most_places}

-- the kneading sequence of an angle: its symbol after so many doublings
abbrev pub symbol_at : Fraction → ℕ → Symbol
symbol_at angle k = symbol_of angle (numerator_at angle k)

-- the symbols of the places, in order
abbrev pub symbols_of : ForwardOrbit → List Symbol
symbols_of o = map (symbol_of o.angle) o.places

-- the symbols up to the first repeat, and how many come before the cycle and in it
pub record Kneading : Type 0 where
  pub preperiod : ℕ
  pub period : ℕ
  pub symbols : List Symbol

abbrev pub kneading_of : ForwardOrbit → Kneading
kneading_of o = record { preperiod = o.preperiod; period = period_of o; symbols = symbols_of o }

-- A key holds the kneading sequence of an orbit of at most 128 angles, and Zero after its symbols.
pub record IsKeyOf (o : ForwardOrbit) (key : KneadKey) : Type 0 where
  pub few : length o.places ≤ most_places
  pub preperiod : key.preperiod ≡ o.preperiod
  pub period : key.period ≡ period_of o
  pub symbols : key.symbols ≡ symbols_of o ++ replicate (most_places - length o.places) Zero

-- the kneading sequence that a key holds
abbrev pub kneading_in : KneadKey → Kneading
kneading_in key = record {
  preperiod = key.preperiod;
  period = key.period;
  symbols = take (key.preperiod + key.period) key.symbols;
}

-- A key is that of an orbit.
pub record IsKey (key : KneadKey) : Type 0 where
  pub orbit : ForwardOrbit
  pub is_orbit : IsForwardOrbit orbit
  pub is_key : IsKeyOf orbit key
