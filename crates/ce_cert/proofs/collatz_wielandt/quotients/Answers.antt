use Rattle.std.proofs.Common.{◌≡◌, ◌<◌, ◌^◌, min, max, length, arith}
use Rattle.std.specs.Prelude.{slice_index}
use Rattle.ce_cert.specs.Quotients.{quotient_down, quotient_up}
use Rattle.ce_cert.proofs.Kept.{least_step, greatest_step}
use Rattle.ce_cert.proofs.collatz_wielandt.quotients.Goals as goal

pub lesser_quotient-requires-clause-sum : goal.lesser_quotient-requires-clause-sum
lesser_quotient-requires-clause-sum c =
    omega (arith, c.block_sum-sum.ensures.bounded (2 ^ 60) c.requires.vector.small)

pub greater_quotient-greatest-requires-clause-sum : goal.greater_quotient-greatest-requires-clause-sum
greater_quotient-greatest-requires-clause-sum c =
    omega (arith, c.block_sum-sum.ensures.bounded (2 ^ 60) c.requires.vector.small)

pub loop-i-preserved : goal.loop-i-preserved
loop-i-preserved c =
    let down : c.lesser_quotient.result
    ≡ min (slice_index c.loop-i.least (slice_index c.args.ranks.now c.loop-i.i))
    (quotient_down c.args.rows.now c.args.ranks.now c.args.v.now c.loop-i.i) = cc in
    let up : c.greater_quotient-greatest.result
    ≡ max c.loop-i.greatest
    (min (quotient_up c.args.rows.now c.args.ranks.now c.args.v.now c.loop-i.i) (2 ^ 62)) = cc in
    let long : length c.loop-i.least ≡ length c.args.rows.now.list = omega arith in
    let within : slice_index c.args.ranks.now c.loop-i.i < length c.loop-i.least =
    omega (arith, c.requires.ranking.below c.loop-i.i 0) in
    record {
      least = λ rank less. least_step c.args.rows.now c.args.ranks.now c.args.v.now c.loop-i.i c.loop-i.least
          c.lesser_quotient.result within (λ r small. c.loop-i.invariant.least r (omega (arith, long, small))) down
          rank (omega (arith, long, less));
      cut = omega (arith, c.greater_quotient-greatest.ensures);
      greatest =
          greatest_step c.args.rows.now c.args.ranks.now c.args.v.now c.loop-i.i c.loop-i.greatest
          c.greater_quotient-greatest.result c.loop-i.invariant.greatest up;
    }
