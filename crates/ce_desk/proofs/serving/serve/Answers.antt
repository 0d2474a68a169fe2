use Rattle.ce_desk.proofs.Stopped.{has_begun}
use Rattle.ce_desk.proofs.serving.serve.Goals as goal

pub open_and_run-requires-clause-begun : goal.open_and_run-requires-clause-begun
open_and_run-requires-clause-begun g c lifetimes outlive = (
  c.args.source,
  c.args.out,
  has_begun g.S.Source.left g.S.Source.faults g.O.Sink.taken g.O.Sink.faults c.args.settings.rounds
      c.args.settings.scale c.args.source c.args.out c.new.result c.new.ensures.lines c.new.ensures.out
      c.new.ensures.count,
)

pub returns-clause-done : goal.returns-clause-done
returns-clause-done g c =
    (c.open_and_run.ensures c.args.source c.args.out
    (has_begun g.S.Source.left g.S.Source.faults g.O.Sink.taken g.O.Sink.faults c.args.settings.rounds
    c.args.settings.scale c.args.source c.args.out c.new.result c.new.ensures.lines c.new.ensures.out
    c.new.ensures.count)).done

pub returns-clause-part : goal.returns-clause-part
returns-clause-part g c =
    (c.open_and_run.ensures c.args.source c.args.out
    (has_begun g.S.Source.left g.S.Source.faults g.O.Sink.taken g.O.Sink.faults c.args.settings.rounds
    c.args.settings.scale c.args.source c.args.out c.new.result c.new.ensures.lines c.new.ensures.out
    c.new.ensures.count)).part

pub returns-clause-too_long : goal.returns-clause-too_long
returns-clause-too_long g c =
    (c.open_and_run.ensures c.args.source c.args.out
    (has_begun g.S.Source.left g.S.Source.faults g.O.Sink.taken g.O.Sink.faults c.args.settings.rounds
    c.args.settings.scale c.args.source c.args.out c.new.result c.new.ensures.lines c.new.ensures.out
    c.new.ensures.count)).too_long

pub returns-clause-answered : goal.returns-clause-answered
returns-clause-answered g c =
    (c.open_and_run.ensures c.args.source c.args.out
    (has_begun g.S.Source.left g.S.Source.faults g.O.Sink.taken g.O.Sink.faults c.args.settings.rounds
    c.args.settings.scale c.args.source c.args.out c.new.result c.new.ensures.lines c.new.ensures.out
    c.new.ensures.count)).answered

pub returns-clause-answered_all : goal.returns-clause-answered_all
returns-clause-answered_all g c =
    (c.open_and_run.ensures c.args.source c.args.out
    (has_begun g.S.Source.left g.S.Source.faults g.O.Sink.taken g.O.Sink.faults c.args.settings.rounds
    c.args.settings.scale c.args.source c.args.out c.new.result c.new.ensures.lines c.new.ensures.out
    c.new.ensures.count)).answered_all

pub returns-clause-read_fault : goal.returns-clause-read_fault
returns-clause-read_fault g c =
    (c.open_and_run.ensures c.args.source c.args.out
    (has_begun g.S.Source.left g.S.Source.faults g.O.Sink.taken g.O.Sink.faults c.args.settings.rounds
    c.args.settings.scale c.args.source c.args.out c.new.result c.new.ensures.lines c.new.ensures.out
    c.new.ensures.count)).read_fault

pub returns-clause-write_fault : goal.returns-clause-write_fault
returns-clause-write_fault g c =
    (c.open_and_run.ensures c.args.source c.args.out
    (has_begun g.S.Source.left g.S.Source.faults g.O.Sink.taken g.O.Sink.faults c.args.settings.rounds
    c.args.settings.scale c.args.source c.args.out c.new.result c.new.ensures.lines c.new.ensures.out
    c.new.ensures.count)).write_fault

pub returns-clause-read : goal.returns-clause-read
returns-clause-read g c =
    (c.open_and_run.ensures c.args.source c.args.out
    (has_begun g.S.Source.left g.S.Source.faults g.O.Sink.taken g.O.Sink.faults c.args.settings.rounds
    c.args.settings.scale c.args.source c.args.out c.new.result c.new.ensures.lines c.new.ensures.out
    c.new.ensures.count)).read

pub returns-clause-wrote : goal.returns-clause-wrote
returns-clause-wrote g c =
    (c.open_and_run.ensures c.args.source c.args.out
    (has_begun g.S.Source.left g.S.Source.faults g.O.Sink.taken g.O.Sink.faults c.args.settings.rounds
    c.args.settings.scale c.args.source c.args.out c.new.result c.new.ensures.lines c.new.ensures.out
    c.new.ensures.count)).wrote
