use Rattle.std.proofs.Common.{subst}
use Rattle.core_entropy.specs.Compare.{AreCompared}
use Rattle.core_entropy.specs.Status.{ended_with}
use Rattle.core_entropy.proofs.CompareTask.{compare_ended}
use Rattle.core_entropy.proofs.commands.compare.write_compare.Goals as goal

pub returns-in-Ok : goal.returns-in-Ok
returns-in-Ok g c =
    let relation = c.in-Ok.relation in
    let compared = subst (λ e. AreCompared c.args.a c.args.b c.args.rounds e relation) c.in-Some.ensures.value
    c.in-Ok.ensures.relation in
    compare_ended c.args.a c.args.b c.args.rounds c.args.scale g.O.Sink.taken g.O.Sink.faults c.args.out.now
    c.write_relation.new.out (ended_with c.write_relation.result) relation compared c.in-Ok.ensures.short
    c.write_relation.ensures.end c.write_relation.ensures.wrote
