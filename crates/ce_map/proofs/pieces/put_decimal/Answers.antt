use Rattle.std.proofs.Common.{arith}
use Rattle.ce_map.proofs.Appended.{decimal_short}
use Rattle.ce_map.proofs.pieces.put_decimal.Goals as goal

pub write_digits-start-requires : goal.write_digits-start-requires
write_digits-start-requires c =
    let short = decimal_short c.args.n c.ranges.n.fits in
    (omega arith, omega arith)
