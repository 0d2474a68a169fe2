use Rattle.std.proofs.Common.{arith, subst, sym}
use Rattle.core_entropy.specs.Map.{IsMapText}
use Rattle.core_entropy.specs.Status.{ended_with}
use Rattle.core_entropy.proofs.Ended.{wrote_weaker}
use Rattle.core_entropy.proofs.MapTask.{map_ready}
use Rattle.core_entropy.proofs.UpgradeTask.{few_angles}
use Rattle.core_entropy.proofs.commands.map.write_items_of.Goals as goal

pub write_listed-requires-clause-few : goal.write_listed-requires-clause-few
write_listed-requires-clause-few g c =
    let few = few_angles c.args.order c.args.angles.now c.requires.some c.requires.few c.requires.angles in
    omega (arith, few)

pub returns-clause-wrote : goal.returns-clause-wrote
returns-clause-wrote g c =
    let s = c.args.solutions.now in
    let settings = c.args.settings.now in
    let angles = c.args.angles.now in
    let start = c.append_header.new.text.items in
    let m = map_ready settings c.args.order angles s.classes.of.items s.classes.first.items s.solved.items
    c.new-page.result.items start c.requires.solved c.requires.angles c.new-page.ensures.items
    c.in_ok-append_header.ensures.ok in
    let IsMap = IsMapText c.args.order settings.rounds settings.turns settings.workers settings.scale in
    wrote_weaker g.O.Sink.taken g.O.Sink.faults c.args.out.now c.write_listed.new.out _ IsMap
    (λ text spelled. subst IsMap (sym spelled) m.is_text) (ended_with c.write_listed.result)
    (c.write_listed.ensures.wrote m.items m.are)
