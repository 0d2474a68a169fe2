use Rattle.std.proofs.Common.{[], Err, inl, inr, refl}
use Rattle.ce_desk.proofs.Hiring.{none_open}
use Rattle.ce_desk.proofs.Stopped.{begun_next}
use Rattle.ce_desk.specs.Desk.{empty_desk, early_desk}
use Rattle.ce_desk.specs.ServedInside.{at_start}
use Rattle.ce_desk.specs.declared.talk.Fault.TheVariants.{NoMemory}
use Rattle.ce_desk.specs.declared.talk.TalkEnd.TheVariants.{Fault as Failed}
use Rattle.ce_desk.proofs.serving.open_and_run.Goals as goal

pub returns-in_default : goal.returns-in_default
returns-in_default g c = λ source out begun.
    let rounds = c.args.settings.now.rounds in
    let exponent = c.args.settings.now.scale in
    c.stopped_early.ensures rounds exponent source out empty_desk (Err (Failed NoMemory)) refl (inr refl)
    (begun_next g.S.Source.left g.S.Source.faults g.O.Sink.taken g.O.Sink.faults rounds exponent
    source out c.args.talk begun)

pub returns-in-Some : goal.returns-in-Some
returns-in-Some g c = λ source out begun.
    let slots = c.in-Ok.slots in
    let none = c.in-Ok.ensures.none in
    let opened = c.open_all-next.ensures.next
    (at_start g.S.Source.left g.S.Source.faults g.O.Sink.taken g.O.Sink.faults source out) []
    (none_open slots.cases.items slots.firsts.items slots.workers.items none.0 none.1 none.2) begun in
    c.stopped_early-in-Some.ensures c.args.settings.now.rounds c.args.settings.now.scale source out
    (early_desk opened.0) c.open_all-next.result refl (inl c.in-Some.ensures.fault) opened.2

pub hire_and_run-requires-clause-opened : goal.hire_and_run-requires-clause-opened
hire_and_run-requires-clause-opened g c lifetimes outlive =
    let b = c.requires.begun in
    let slots = c.in-Ok.slots in
    let none = c.in-Ok.ensures.none in
    let opened = c.open_all-next.ensures.next
    (at_start g.S.Source.left g.S.Source.faults g.O.Sink.taken g.O.Sink.faults b.0 b.1) []
    (none_open slots.cases.items slots.firsts.items slots.workers.items none.0 none.1 none.2) b.2 in
    (c.args.settings.now.rounds, c.args.settings.now.scale, b.0, b.1, early_desk opened.0, opened.1, opened.2)

pub returns : goal.returns
returns g c = λ source out begun.
    let slots = c.in-Ok.slots in
    let none = c.in-Ok.ensures.none in
    let opened = c.open_all-next.ensures.next
    (at_start g.S.Source.left g.S.Source.faults g.O.Sink.taken g.O.Sink.faults source out) []
    (none_open slots.cases.items slots.firsts.items slots.workers.items none.0 none.1 none.2) begun in
    c.hire_and_run.ensures c.args.settings.now.rounds c.args.settings.now.scale source out (early_desk opened.0) refl
    opened.1 opened.2
