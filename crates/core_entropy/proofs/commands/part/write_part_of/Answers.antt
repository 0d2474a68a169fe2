use Rattle.core_entropy.specs.Part.{IsPartText}
use Rattle.core_entropy.specs.Status.{ended_with}
use Rattle.core_entropy.proofs.Ended.{wrote_weaker}
use Rattle.core_entropy.proofs.PartTask.{at_few, at_small, part_ready}
use Rattle.core_entropy.proofs.commands.part.write_part_of.Goals as goal

pub write_listed-requires-clause-few : goal.write_listed-requires-clause-few
write_listed-requires-clause-few g c =
    at_few c.args.order c.args.from c.args.to c.args.angles.now c.requires.at c.requires.some c.requires.few

pub write_listed-requires-clause-small : goal.write_listed-requires-clause-small
write_listed-requires-clause-small g c =
    at_small c.args.order c.args.from c.args.to c.args.angles.now c.requires.at c.requires.some c.requires.few

pub returns-clause-wrote : goal.returns-clause-wrote
returns-clause-wrote g c =
    let s = c.args.solutions.now in
    let settings = c.args.settings.now in
    let start = c.append_part_header.new.text.items in
    let p = part_ready settings c.args.order c.args.from c.args.to c.args.angles.now s.classes.of.items
    s.classes.first.items s.solved.items c.new-page.result.items start c.requires.solved c.requires.at
    c.new-page.ensures.items c.in_ok-append_part_header.ensures.ok in
    let IsPart = IsPartText c.args.order c.args.from c.args.to settings.rounds settings.turns
    settings.workers settings.scale in
    wrote_weaker g.O.Sink.taken g.O.Sink.faults c.args.out.now c.write_listed.new.out _ IsPart p.is_text
    (ended_with c.write_listed.result) (c.write_listed.ensures.wrote p.items p.are)
