use Rattle.std.proofs.Common.{List, drop, slice_index_or, sym, ap, ◌∙◌, subst}
use Rattle.std.proofs.lemmas.List.{with_items_is}
use Rattle.ce_desk.specs.ActorsInside.{HasRunSession}
use Rattle.ce_desk.specs.declared.actor.Actor.{Actor}
use Rattle.ce_desk.specs.declared.session.Session.{Session}
use Rattle.ce_desk.proofs.Beside.{session_after, crews_after, session_is, no_crew}
use Rattle.ce_desk.proofs.actor.run_beside.Goals as goal

pub unreachable-requires : goal.unreachable-requires
unreachable-requires g c =
    let ys = c.run_actors.new.actors in
    let is = with_items_is c.args.actors ys (c.run_actors.auto.actors ∙ c.as_mut_slice.ensures.len) in
    let f = c.requires.first in
    let a = session_after g.S.Source.left g.S.Source.faults g.O.Sink.taken g.O.Sink.faults c.args.cases.now
    c.as_mut_slice.result.now ys f.0 f.1 (c.as_mut_slice.ensures.value ∙ f.2)
    c.run_actors.ensures c.remove.result in
    let first = c.remove.ensures.value
    ∙ ap (λ (l : List (Actor g.row.S.Denot g.row.O.Denot)). slice_index_or l 0 c.remove.result) is ∙ a.actor in
    no_crew a.session c.in_default.field-0 (sym first ∙ c.in_default.is)

pub returns-clause-session : goal.returns-clause-session
returns-clause-session g c = λ s crews all.
    let ys = c.run_actors.new.actors in
    let is = with_items_is c.args.actors ys (c.run_actors.auto.actors ∙ c.as_mut_slice.ensures.len) in
    let a = session_after g.S.Source.left g.S.Source.faults g.O.Sink.taken g.O.Sink.faults c.args.cases.now
    c.as_mut_slice.result.now ys s crews (c.as_mut_slice.ensures.value ∙ all)
    c.run_actors.ensures c.remove.result in
    let first = c.remove.ensures.value
    ∙ ap (λ (l : List (Actor g.row.S.Denot g.row.O.Denot)). slice_index_or l 0 c.remove.result) is ∙ a.actor in
    subst (λ (x : Session g.row.S.Denot g.row.O.Denot). HasRunSession g.S.Source.left g.S.Source.faults g.O.Sink.taken
    g.O.Sink.faults c.args.cases.now s x)
    (session_is a.session c.in-Session.session (sym first ∙ c.in-Session.is)) a.ran_it

pub returns-clause-crews : goal.returns-clause-crews
returns-clause-crews g c = λ s crews all.
    let ys = c.run_actors.new.actors in
    let is = with_items_is c.args.actors ys (c.run_actors.auto.actors ∙ c.as_mut_slice.ensures.len) in
    crews_after g.S.Source.left g.S.Source.faults g.O.Sink.taken g.O.Sink.faults c.args.cases.now
    c.as_mut_slice.result.now ys s crews (c.as_mut_slice.ensures.value ∙ all) c.run_actors.ensures
    c.run_actors.auto.actors c.remove.new.self.items
    (c.remove.ensures.items ∙ ap (λ (l : List (Actor g.row.S.Denot g.row.O.Denot)). drop 1 l) is)
