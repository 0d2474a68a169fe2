use Rattle.std.proofs.Common.{◌≡◌, ◌<◌, ◌-◌, ◌/◌, ◌^◌, arith, subst}
use Rattle.std.proofs.Math.ListN.{length-set}
use Rattle.ce_map.proofs.Appended.{turn, last_turn, fewer_digits}
use Rattle.ce_map.proofs.pieces.write_hexadecimal.Goals as goal

pub loop-left-preserved : goal.loop-left-preserved
loop-left-preserved c =
    let i = c.loop-left.invariant in
    let fewer = fewer_digits c.loop-left.left (c.loop-left.at - 5) c.loop-left-test.true i.room in
    let place : c.loop-left.at - 5 - 1 ≡ c.loop-left.at - 1 - 5 = omega arith in
    record {
      room = subst (λ k. c.loop-left.left / 16 < 16 ^ k) place fewer.1;
      within = omega (arith, fewer.0);
      most = omega arith;
      long = omega (arith, length-set c.loop-left.digits (c.loop-left.at - 1) c.glyph.result);
      small = omega arith;
      written =
          turn c.args.n c.loop-left.left c.loop-left.at c.loop-left.digits c.glyph.result c.loop-left-test.true i.small
          (omega arith) (omega arith) c.glyph.ensures i.written;
    }

pub returns-clause-written : goal.returns-clause-written
returns-clause-written c =
    let i = c.loop-left.invariant in
    last_turn c.args.n c.loop-left.left c.loop-left.at c.loop-left.digits c.glyph-2.result c.loop-left-test.false
    (omega arith) (omega arith) c.glyph-2.ensures i.written
