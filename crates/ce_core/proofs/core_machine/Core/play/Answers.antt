use Rattle.ce_core.proofs.Steps.{played_more}
use Rattle.ce_core.proofs.core_machine.Core.play.Goals as goal

pub loop-event-preserved : goal.loop-event-preserved
loop-event-preserved c = record {
  played = played_more c.args.self.now c.loop-event.self c.step-answer.new.self c.args.events.now
      c.loop-event.event-index _ c.loop-event-test.true c.loop-event.invariant.played c.step-answer.ensures.machine;
  asked = c.step-answer.ensures.asked c.loop-event.event-index c.loop-event.invariant.asked;
}
