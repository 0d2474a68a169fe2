use Rattle.std.proofs.Common.{[], subst}
use Rattle.core_entropy.specs.Output.{HasEnded}
use Rattle.core_entropy.specs.Part.{part_task}
use Rattle.core_entropy.specs.Status.{ended_with}
use Rattle.core_entropy.proofs.PartTask.{at_few, at_small, part_ended}
use Rattle.core_entropy.proofs.commands.part.write_part.Goals as goal

pub solve_short_classes-requires-clause-few : goal.solve_short_classes-requires-clause-few
solve_short_classes-requires-clause-few g c κs bounds =
    at_few c.args.order c.args.from c.args.to c.args.angles.now c.requires.at c.requires.some c.requires.few

pub solve_short_classes-requires-clause-small : goal.solve_short_classes-requires-clause-small
solve_short_classes-requires-clause-small g c κs bounds =
    at_small c.args.order c.args.from c.args.to c.args.angles.now c.requires.at c.requires.some c.requires.few

pub returns : goal.returns
returns g c =
    let a = c.args in
    let s = ended_with c.write_part_of.result in
    subst (λ e. HasEnded g.O.Sink.taken g.O.Sink.faults (part_task a.order a.from a.to a.rounds a.turns a.workers e) []
    s a.out.now c.write_part_of.new.out) c.in-Some.ensures.value
    (part_ended a.order a.from a.to a.rounds a.turns a.workers c.in-Some.scale a.angles.now c.requires.at g.O.Sink.taken
    g.O.Sink.faults a.out.now c.write_part_of.new.out s c.write_part_of.ensures.end c.write_part_of.ensures.wrote)
