use Rattle.std.proofs.Common.{◌≡◌, ◌++◌, take, string_bytes}
use Rattle.std.specs.Prelude.{codes}
use Rattle.core_entropy.specs.Show.{place_text, spaced}
use Rattle.core_entropy.proofs.commands.show.append_orbit.Given as goal

abbrev pub invariant-loop-i : goal.invariant-loop-i
invariant-loop-i l = string_bytes l.text ≡ string_bytes l.fn.text ++ codes "orbit"
    ++ spaced (place_text l.orbit) (take l.i l.orbit.places)
