use Rattle.std.proofs.Common.{◌≡◌, drop}
use Rattle.ce_map.specs.DigitsInside.{digits_front}
use Rattle.ce_map.proofs.digits.number_on.Given as goal

abbrev pub invariant-loop-i : goal.invariant-loop-i
invariant-loop-i l = digits_front l.radix l.first l.text ≡ digits_front l.radix l.value (drop l.i l.text)
