use Rattle.std.proofs.Common.{◌∙◌, Err, ap, arith}
use Rattle.ce_sweep.proofs.ShortOrbits.{none_above}
use Rattle.ce_sweep.proofs.answers.solve_short_classes.Goals as goal

pub unreachable-requires : goal.unreachable-requires
unreachable-requires g c =
    let some =
    c.solve_classes.ensures.long (c.in-Err-OrbitTooLong.is ∙ ap (λ e. Err e) c.in-Err-OrbitTooLong.field-0-is) in
    none_above 128 128 c.args.angles.now (omega arith) c.requires.small some
