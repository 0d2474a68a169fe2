use Rattle.std.proofs.Common.{◌∙◌, map, string_bytes, sym, subst}
use Rattle.core_entropy.proofs.DeskTask.{asks_any, known_exponent, none_served, refused_memory, served_as}
use Rattle.core_entropy.proofs.DeskTask.{served_headline}
use Rattle.core_entropy.specs.Desk.{HasRunDesk}
use Rattle.core_entropy.specs.declared.status.Status.{Status}
use Rattle.core_entropy.proofs.desk.run_desk.Goals as goal

pub returns-in-Ok-clause-headline : goal.returns-in-Ok-clause-headline
returns-in-Ok-clause-headline g c = λ rounds workers exponent asks.
    let words = map string_bytes c.args.words.now in
    let s = c.in-Ok.settings in
    let end = c.serve-stop.result in
    let e = c.serve-stop.ensures in
    served_headline g.S.Source.left g.S.Source.faults g.O.Sink.taken g.O.Sink.faults rounds exponent
    c.args.source c.args.out
    (known_exponent words rounds workers exponent asks) c.tell-status.result end.source end.out
    (served_as g.S.Source.left g.S.Source.faults g.O.Sink.taken g.O.Sink.faults words s.rounds s.workers s.scale rounds
    workers exponent c.args.source c.args.out c.tell-status.result end.source end.out c.in-Ok.ensures.asked asks (
      end.stop,
      c.tell-status.ensures.same ∙ c.status_at.ensures,
      record {
        done = e.done;
        part = e.part;
        too_long = e.too_long;
        answered = e.answered;
        answered_all = e.answered_all;
        read_fault = e.read_fault;
        write_fault = e.write_fault;
        read = e.read;
        wrote = e.wrote;
      },
    ))

pub returns-in-Ok-clause-served : goal.returns-in-Ok-clause-served
returns-in-Ok-clause-served g c = λ rounds workers exponent asks.
    let words = map string_bytes c.args.words.now in
    let s = c.in-Ok.settings in
    let end = c.serve-stop.result in
    let e = c.serve-stop.ensures in
    served_as g.S.Source.left g.S.Source.faults g.O.Sink.taken g.O.Sink.faults words s.rounds s.workers s.scale rounds
    workers exponent c.args.source c.args.out c.tell-status.result end.source end.out c.in-Ok.ensures.asked asks (
      end.stop,
      c.tell-status.ensures.same ∙ c.status_at.ensures,
      record {
        done = e.done;
        part = e.part;
        too_long = e.too_long;
        answered = e.answered;
        answered_all = e.answered_all;
        read_fault = e.read_fault;
        write_fault = e.write_fault;
        read = e.read;
        wrote = e.wrote;
      },
    )

pub returns-in-Err-clause-headline : goal.returns-in-Err-clause-headline
returns-in-Err-clause-headline g c = λ rounds workers exponent asks.
    let words = map string_bytes c.args.words.now in
    served_headline g.S.Source.left g.S.Source.faults g.O.Sink.taken g.O.Sink.faults rounds exponent
    c.args.source c.args.out
    (known_exponent words rounds workers exponent asks) _ c.args.source c.args.out
    (none_served g.S.Source.left g.S.Source.faults g.O.Sink.taken g.O.Sink.faults rounds exponent
    c.args.source c.args.out)

pub returns-in-Err-clause-served : goal.returns-in-Err-clause-served
returns-in-Err-clause-served g c = λ rounds workers exponent asks.
    let words = map string_bytes c.args.words.now in
    let t = c.tell-status-in-Err.result in
    let is = refused_memory words c.in-Err.refusal t c.tell-status-in-Err.ensures.same c.in-Err.ensures.refused
    (asks_any words rounds workers exponent asks) in
    subst (λ (s : Status). HasRunDesk g.S.Source.left g.S.Source.faults g.O.Sink.taken g.O.Sink.faults rounds exponent
    c.args.source c.args.out s c.args.source c.args.out) (sym is)
    (none_served g.S.Source.left g.S.Source.faults g.O.Sink.taken g.O.Sink.faults rounds exponent
    c.args.source c.args.out)
