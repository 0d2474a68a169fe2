-- Numbers as a map has them: below 2^62 (`IsNumber`), as digits without a leading zero (`number_text`),
-- and in lists with a space before each (`numbers_text`). Source: this project's choice.
use Rattle.std.specs.Prelude.{ℕ, ◌<◌, false, List, ◌∷◌}
use Rattle.std.specs.Fmt.{digits}
use Rattle.std.specs.List.{flat_map}
use Rattle.ce_rows.specs.Limits.{number_limit}

-- The numbers of a map are below 2^62.
abbrev pub IsNumber : ℕ → Type 0
IsNumber n = n < number_limit

-- the digits of a number in a base of at most 16; ten to fifteen are written a to f
abbrev pub number_text : ℕ → ℕ → List ℕ
number_text base n = digits base false n

-- a list of numbers, with a space before each
abbrev pub numbers_text : ℕ → List ℕ → List ℕ
numbers_text base list = flat_map (λ n. 32 ∷ digits base false n) list
