use Rattle.std.proofs.Common.{◌+◌, sym, subst}
use Rattle.ce_log2.specs.Logarithm.{IsBelowLogarithm}
use Rattle.ce_log2.proofs.Logarithms.{bits_below_are}
use Rattle.ce_log2.proofs.bits.bits_below.Goals as goal

pub returns-clause-below : goal.returns-clause-below
returns-clause-below c =
    let near =
    bits_below_are c.args.scale c.args.low
    (record { exponent = c.find_bits_below.ensures.exponent; one = c.requires.one; two = c.requires.two }) in
    subst (IsBelowLogarithm c.args.scale c.args.low) (sym c.find_bits_below.ensures.value) near.below

pub returns-clause-near : goal.returns-clause-near
returns-clause-near c =
    let near =
    bits_below_are c.args.scale c.args.low
    (record { exponent = c.find_bits_below.ensures.exponent; one = c.requires.one; two = c.requires.two }) in
    subst (λ a. IsBelowLogarithm c.args.scale c.args.low (a + 2) → ⊥) (sym c.find_bits_below.ensures.value) near.near
