use Rattle.std.proofs.Common.{arith}
use Rattle.ce_log2.proofs.Small.{small_up}
use Rattle.ce_log2.proofs.bits.find_bits_above.Goals as goal

pub overflow_add-result : goal.overflow_add-result
overflow_add-result c =
    let s = c.steps_rounded_up-s.result in
    let small =
    small_up 16 c.scaled.result (omega arith) c.scaled.ensures.least s c.scaled.ensures.most
    c.steps_rounded_up-s.ensures in
    omega (arith, small.0)
