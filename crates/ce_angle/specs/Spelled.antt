-- How an angle is spelled, and the end of a line. Source: this project's choice.
use Rattle.std.specs.Prelude.{ℕ, List, ◌++◌, codes, [], ◌∷◌}
use Rattle.std.specs.Fmt.{decimal}
use Rattle.ce_angle.specs.Fraction.{Fraction}

-- a line with its line feed
abbrev pub ended : List ℕ → List ℕ
ended text = text ++ 10 ∷ []

-- `P/Q`
abbrev pub fraction_text : Fraction → List ℕ
fraction_text f = decimal f.num ++ codes "/" ++ decimal f.den
