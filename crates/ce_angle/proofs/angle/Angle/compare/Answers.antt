use Rattle.std.proofs.Common.{◌*◌, refl}
use Rattle.ce_angle.proofs.Compared.{same_or_not}
use Rattle.ce_angle.proofs.angle.Angle.compare.Goals as goal

pub returns-clause-same : goal.returns-clause-same
returns-clause-same c =
    let left = c.from.result * c.from-2.result in
    let right = c.from-3.result * c.from-4.result in
    same_or_not c.args.self.now c.args.other.now left right c.cmp.result c.num.ensures.angle c.num-2.ensures.angle
    (rw (c.from.ensures, c.from-2.ensures, c.num.ensures.value, c.den.ensures.value) refl)
    (rw (c.from-3.ensures, c.from-4.ensures, c.num-2.ensures.value, c.den-2.ensures.value) refl) c.cmp.ensures
