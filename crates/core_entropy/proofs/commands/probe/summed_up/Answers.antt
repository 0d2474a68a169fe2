use Rattle.std.proofs.Common.{arith, refl}
use Rattle.core_entropy.proofs.ProbeTask.{one_bounded, summary_none, summed_more}
use Rattle.core_entropy.proofs.commands.probe.summed_up.Goals as goal

pub loop-i-init : goal.loop-i-init
loop-i-init c = record { sum = summary_none c.args.scale; below = omega arith; above = omega arith }

pub summary_with-summary-requires-clause-interval : goal.summary_with-summary-requires-clause-interval
summary_with-summary-requires-clause-interval c =
    one_bounded c.args.scale c.args.answers.now c.loop-i.i c.index-answers-i.result c.interval_of-interval.result
    c.loop-i-test.true c.index-answers-i.is c.interval_of-interval.ensures c.requires.each

pub loop-i-preserved : goal.loop-i-preserved
loop-i-preserved c = record {
  sum = summed_more c.args.scale c.args.answers.now c.loop-i.i c.index-answers-i.result c.interval_of-interval.result
      c.loop-i-test.true c.index-answers-i.is c.interval_of-interval.ensures _ c.loop-i.summary
      c.summary_with-summary.result refl c.loop-i.invariant.sum c.summary_with-summary.ensures.summary;
  below = omega (arith, c.loop-i.invariant.below, c.summary_with-summary.ensures.below);
  above = omega (arith, c.loop-i.invariant.above, c.summary_with-summary.ensures.above);
}
