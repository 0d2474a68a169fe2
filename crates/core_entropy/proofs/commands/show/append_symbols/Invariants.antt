use Rattle.std.proofs.Common.{◌≡◌, ◌++◌, take, string_bytes}
use Rattle.std.specs.Prelude.{codes}
use Rattle.ce_orbit.specs.Symbols.{symbol_of, symbol_text}
use Rattle.core_entropy.specs.Show.{spaced}
use Rattle.core_entropy.proofs.commands.show.append_symbols.Given as goal

abbrev pub invariant-loop-i : goal.invariant-loop-i
invariant-loop-i l = string_bytes l.text ≡ string_bytes l.fn.text ++ codes "symbols"
    ++ spaced (λ x. symbol_text (symbol_of l.orbit.angle x)) (take l.i l.orbit.places)
