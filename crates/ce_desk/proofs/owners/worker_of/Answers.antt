use Rattle.std.proofs.Common.{◌∙◌}
use Rattle.ce_desk.proofs.Dealing.{found, no_session, is_owner, taken_back}
use Rattle.std.proofs.lemmas.List.{get_or_default}
use Rattle.ce_desk.proofs.owners.worker_of.Goals as goal

pub unreachable-requires : goal.unreachable-requires
unreachable-requires g c =
    let o = c.requires.own in
    no_session c.args.crews.now c.args.slot o.0 o.1 c.actor_of-actor.result c.actor_of-actor.ensures.value
    c.index-crews-actor.result c.in_default.not-Crew

pub release-requires-clause-there : goal.release-requires-clause-there
release-requires-clause-there g c =
    let o = c.requires.own in
    (found c.args.crews.now c.args.slot o.0 o.1 c.actor_of-actor.result c.actor_of-actor.ensures.value
    c.index-crews-actor.result
    c.in-Crew.crew c.in-Crew.is).there

pub release-requires-clause-some : goal.release-requires-clause-some
release-requires-clause-some g c =
    let o = c.requires.own in (
      o.0,
      (found c.args.crews.now c.args.slot o.0 o.1 c.actor_of-actor.result c.actor_of-actor.ensures.value
          c.index-crews-actor.result
          c.in-Crew.crew c.in-Crew.is).worker_is,
    )

pub returns-clause-worker : goal.returns-clause-worker
returns-clause-worker g c =
    let o = c.requires.own in
    is_owner c.args.crews.now c.args.slot o.0 o.1 c.actor_of-actor.result c.actor_of-actor.ensures.value
    c.index-crews-actor.result
    c.in-Crew.crew c.in-Crew.is c.release.result c.release.ensures.worker

pub returns-clause-rest : goal.returns-clause-rest
returns-clause-rest g c =
    let o = c.requires.own in
    let k = c.actor_of-actor.result in
    let within = c.actor_of-actor.ensures.within in
    taken_back c.args.crews.now k c.in-Crew.crew c.release.new.self c.args.slot _ within
    (λ d. get_or_default c.args.crews.now k d c.index-crews-actor.result within ∙ c.in-Crew.is)
    (found c.args.crews.now c.args.slot o.0 o.1 k c.actor_of-actor.ensures.value c.index-crews-actor.result
    c.in-Crew.crew c.in-Crew.is).there
    c.release.ensures.rest
