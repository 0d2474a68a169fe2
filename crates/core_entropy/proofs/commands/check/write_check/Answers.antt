use Rattle.core_entropy.specs.Checked.{IsCheckAnswer}
use Rattle.core_entropy.specs.Status.{ended_with}
use Rattle.core_entropy.proofs.CheckTask.{verdict_ended}
use Rattle.core_entropy.proofs.commands.check.write_check.Goals as goal

pub returns : goal.returns
returns g c =
    verdict_ended IsCheckAnswer c.args.bytes.now c.requires.fits c.in_ok-verdict.verdict c.in_ok-verdict.ensures
    g.O.Sink.taken g.O.Sink.faults c.args.out.now c.write_verdict.new.out (ended_with c.write_verdict.result)
    c.write_verdict.ensures.end c.write_verdict.ensures.wrote
