use Rattle.std.proofs.Common.{subst}
use Rattle.ce_merge.specs.Merges.{IsAnswer}
use Rattle.core_entropy.specs.Status.{ended_with}
use Rattle.core_entropy.proofs.MergeTask.{flawed_ended}
use Rattle.core_entropy.proofs.commands.merge.write_merge.Goals as goal

pub returns-in-Refused : goal.returns-in-Refused
returns-in-Refused g c =
    let first = subst (IsAnswer c.args.bytes.now) c.in-Refused.is c.in_ok-text.ensures in
    flawed_ended g.O.Sink.taken g.O.Sink.faults c.args.bytes.now c.requires.fits c.args.out.now c.write_flaw.new.out
    (ended_with c.write_flaw.result) c.in-Refused.line c.in-Refused.cause first c.write_flaw.ensures.end
    c.write_flaw.ensures.wrote
