-- Fixed-point binary logarithms of numbers over 2^e, in units of 2^-16 = 1/65536, without real
-- numbers: a / 65536 ≤ log2 (x / 2^e) means 2^a (2^e)^65536 ≤ x^65536. Source: the definition of the
-- logarithm; the unit is this project's choice.
use Rattle.std.specs.Prelude.{ℕ, ◌*◌, ◌^◌, ◌≤◌}

-- The logarithm is at least a units.
abbrev pub IsBelowLogarithm : ℕ → ℕ → ℕ → Type 0
IsBelowLogarithm exponent x a = 2 ^ a * 2 ^ (exponent * 65536) ≤ x ^ 65536

-- The logarithm is at most a units.
abbrev pub IsAboveLogarithm : ℕ → ℕ → ℕ → Type 0
IsAboveLogarithm exponent x a = x ^ 65536 ≤ 2 ^ a * 2 ^ (exponent * 65536)
