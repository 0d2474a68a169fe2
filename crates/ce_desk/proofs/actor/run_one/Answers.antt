use Rattle.std.proofs.Common.{refl, sym, subst}
use Rattle.ce_desk.specs.ActorsInside.{HasRun}
use Rattle.ce_desk.specs.declared.actor.Actor.{Actor}
use Rattle.ce_desk.specs.declared.actor.Actor.TheVariants.{Session, Crew}
use Rattle.ce_desk.proofs.actor.run_one.Goals as goal

pub returns-in-Session : goal.returns-in-Session
returns-in-Session g c =
    let P : Actor g.row.S.Denot g.row.O.Denot → Type 0 =
    λ a. HasRun g.S.Source.left g.S.Source.faults g.O.Sink.taken g.O.Sink.faults c.args.cases.now
    a (Session c.run.new.self) in
    subst P (sym c.in-Session.is) (c.run.new.self, refl, c.run.ensures)

pub returns-in-Crew : goal.returns-in-Crew
returns-in-Crew g c =
    let e = c.run-in-Crew.ensures in
    let P : Actor g.row.S.Denot g.row.O.Denot → Type 0 =
    λ a. HasRun g.S.Source.left g.S.Source.faults g.O.Sink.taken g.O.Sink.faults c.args.cases.now a
    (Crew c.run-in-Crew.new.self) in
    subst P (sym c.in-Crew.is) (c.run-in-Crew.new.self, refl, record { count = e.count; each = e.each })
