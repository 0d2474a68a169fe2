use Rattle.std.proofs.Common.{ap, map, string_bytes, Err}
use Rattle.core_entropy.specs.Status.{of_words}
use Rattle.core_entropy.specs.Table.{task_asked}
use Rattle.core_entropy.proofs.DeskTask.{any_desk}
use Rattle.core_entropy.proofs.Outcomes.{ended_on_by, words_ended}
use Rattle.core_entropy.proofs.run.answer.Goals as goal

pub returns-in_err-command-clause-ended : goal.returns-in_err-command-clause-ended
returns-in_err-command-clause-ended g c =
    let list = map string_bytes c.args.words.now in
    let e = c.in_err-command.field-0.0 in
    ended_on_by g.O.Sink.taken g.O.Sink.faults (task_asked list) (g.S.Source.left c.args.source.now) c.args.out.now
    c.args.out.now c.from_residual.result (of_words e) c.from_residual.ensures.1
    (words_ended list g.O.Sink.taken g.O.Sink.faults (g.S.Source.left c.args.source.now) c.args.out.now e
    (λ is. c.in_err-command.ensures.usage (ap (λ x. Err x) is)))

pub returns-clause-taken : goal.returns-clause-taken
returns-clause-taken g c = λ good none no_desk usage.
    let list = map string_bytes c.args.words.now in
    let means = c.in_ok-command.ensures.command in
    c.perform.ensures.meant (λ beyond. none (c.in_ok-command.command, means, beyond))
    (λ desk. no_desk (any_desk list c.in_ok-command.command means desk)) usage
