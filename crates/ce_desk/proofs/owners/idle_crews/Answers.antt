use Rattle.std.proofs.Common.{◌≡◌, ◌+◌, List, length, sym, subst, rules, arith}
use Rattle.ce_desk.proofs.Dealing.{pushed, crews_more, none_more}
use Rattle.ce_desk.specs.CrewsInside.{AreCrewsOf, HaveNone}
use Rattle.ce_desk.specs.declared.actor.Actor.{Actor}
use Rattle.ce_desk.specs.declared.actor.Actor.TheVariants.{Crew as ACrew}
use Rattle.ce_desk.proofs.owners.idle_crews.Goals as goal

pub loop-preserved : goal.loop-preserved
loop-preserved g c =
    let old = c.loop.crews.items in
    let crew = c.in_ok-crew.crew in
    let count : length c.push.new.self.items ≡ c.loop.counter + 1 = search rules in
    let was = c.loop.invariant.count in
    let items = pushed c.push.result old c.push.new.self.items (ACrew crew) c.push.ensures.items
    (omega (arith, count, was)) in
    record {
      count = count;
      crews = subst (λ (l : List (Actor g.row.S.Denot g.row.O.Denot)). AreCrewsOf c.args.slots l) (sym items)
          (crews_more c.args.slots old crew c.in_ok-crew.ensures.count c.loop.invariant.crews);
      none = λ slot below. subst (λ (l : List (Actor g.row.S.Denot g.row.O.Denot)). HaveNone l slot) (sym items)
          (none_more c.args.slots old crew c.in_ok-crew.ensures.count c.in_ok-crew.ensures.none slot below
          (c.loop.invariant.none slot below));
      room = search rules;
    }
