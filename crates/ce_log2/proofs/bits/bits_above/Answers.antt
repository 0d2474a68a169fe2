use Rattle.std.proofs.Common.{◌≤◌, ◌-◌, sym, subst}
use Rattle.ce_log2.specs.Logarithm.{IsAboveLogarithm}
use Rattle.ce_log2.proofs.Logarithms.{bits_above_are}
use Rattle.ce_log2.proofs.bits.bits_above.Goals as goal

pub returns-clause-above : goal.returns-clause-above
returns-clause-above c =
    let near =
    bits_above_are c.args.scale c.args.high
    (record { exponent = c.find_bits_above.ensures.exponent; one = c.requires.one; two = c.requires.two }) in
    subst (IsAboveLogarithm c.args.scale c.args.high) (sym c.find_bits_above.ensures.value) near.above

pub returns-clause-near : goal.returns-clause-near
returns-clause-near c =
    let near =
    bits_above_are c.args.scale c.args.high
    (record { exponent = c.find_bits_above.ensures.exponent; one = c.requires.one; two = c.requires.two }) in
    subst (λ a. 2 ≤ a → IsAboveLogarithm c.args.scale c.args.high (a - 2) → ⊥) (sym c.find_bits_above.ensures.value)
    near.near
