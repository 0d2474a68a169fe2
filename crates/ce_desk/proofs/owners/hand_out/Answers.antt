use Rattle.std.proofs.Common.{length, sym, ap, ◌∙◌, arith}
use Rattle.ce_desk.proofs.Dealing.{crew_is, handed_out}
use Rattle.std.proofs.lemmas.List.{get_or_default}
use Rattle.ce_desk.specs.declared.crew.Crew.{Crew}
use Rattle.ce_desk.proofs.owners.hand_out.Goals as goal

pub unreachable-requires : goal.unreachable-requires
unreachable-requires g c =
    let a = c.requires.crews.2 c.actor_of-actor.result c.index-crews-actor.result c.actor_of-actor.ensures.within in
    c.in_default.not-Crew a.0 a.1

pub own-requires : goal.own-requires
own-requires g c =
    let r = c.requires.crews in
    let a = r.2 c.actor_of-actor.result c.index-crews-actor.result c.actor_of-actor.ensures.within in
    let count = ap (λ (x : Crew). length x.workers.items)
    (crew_is {S = g.row.S.Denot} {O = g.row.O.Denot} a.0 c.in-Crew.crew (sym a.1 ∙ c.in-Crew.is)) in
    let slots = a.2 in
    let below = r.1 in
    omega (arith, count, slots, below)

pub returns : goal.returns
returns g c =
    let r = c.requires.crews in
    let k = c.actor_of-actor.result in
    let within = c.actor_of-actor.ensures.within in
    let a = r.2 k c.index-crews-actor.result within in
    let count = ap (λ (x : Crew). length x.workers.items)
    (crew_is {S = g.row.S.Denot} {O = g.row.O.Denot} a.0 c.in-Crew.crew (sym a.1 ∙ c.in-Crew.is)) in
    let slots = a.2 in
    let below = r.1 in
    record {
      crews = handed_out c.args.crews.now k c.in-Crew.crew c.own.new.self c.args.slot c.args.worker within
          c.actor_of-actor.ensures.value
          (λ d. get_or_default c.args.crews.now k d c.index-crews-actor.result within ∙ c.in-Crew.is)
          (omega (arith, count, slots, below)) c.own.ensures;
    }
