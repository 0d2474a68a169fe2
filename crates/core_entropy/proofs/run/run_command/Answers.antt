use Rattle.std.proofs.Common.{map, string_bytes}
use Rattle.core_entropy.specs.Table.{task_asked}
use Rattle.core_entropy.specs.Status.{ended_with}
use Rattle.core_entropy.proofs.Lawful.{words_lawful}
use Rattle.core_entropy.proofs.Outcomes.{complete, headline}
use Rattle.core_entropy.proofs.run.run_command.Goals as goal

pub returns-clause-headline : goal.returns-clause-headline
returns-clause-headline g c =
    let words = map string_bytes c.args.words.now in
    headline g.O.Sink.taken g.O.Sink.faults (task_asked words) (g.S.Source.left c.args.source.now)
    (ended_with c.answer.result) c.args.out.now c.answer.new.out c.answer.ensures.ended (words_lawful words)

pub returns-clause-complete : goal.returns-clause-complete
returns-clause-complete g c =
    let words = map string_bytes c.args.words.now in
    rw (c.tell.ensures.same, c.of-status.ensures)
    (complete g.O.Sink.taken g.O.Sink.faults (task_asked words) (g.S.Source.left c.args.source.now)
    (ended_with c.answer.result) c.args.out.now c.answer.new.out c.answer.ensures.ended (words_lawful words)
    g.S.Source.left g.S.Source.faults c.args.source.now c.answer.new.source c.answer.ensures.read)
