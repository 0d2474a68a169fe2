use Rattle.std.proofs.Common.{◌≡◌, List, length, refl, sym, ap, ◌∙◌, subst, rules}
use Rattle.ce_port.specs.Sink.{GrewBy}
use Rattle.ce_port.specs.WriteAll.{GrewByPrefix}
use Rattle.ce_desk.proofs.Concluded.{done_served, fault_served, cut_is_fault, one_ahead, ended_later}
use Rattle.ce_desk.proofs.Stopped.{closed_all, closed_some}
use Rattle.ce_desk.specs.DeskText.{closing_text}
use Rattle.ce_desk.specs.ServedInside.{at_start}
use Rattle.ce_desk.specs.TalksInside.{streams, quits_at, IsSpeechEnd}
use Rattle.ce_desk.specs.declared.closing.Closing.{Closing}
use Rattle.ce_desk.specs.declared.talk.TalkEnd.{TalkEnd}
use Rattle.ce_desk.proofs.serving.conclude.Goals as goal

pub returns-in-Ok : goal.returns-in-Ok
returns-in-Ok g c = λ rounds exponent source out desk ended close.
    let before = g.O.Sink.taken c.args.talk.out in
    let u = c.conclude.new.self in
    let said = subst (λ (l : List Closing). GrewBy before (g.O.Sink.taken u.out) (closing_text l (quits_at c.args.end)))
    c.deref.ensures.value c.in-Ok.ensures.said.1 in
    let later = ended_later rounds exponent
    (at_start g.S.Source.left g.S.Source.faults g.O.Sink.taken g.O.Sink.faults source out)
    c.args.end desk
    (streams g.S.Source.left g.S.Source.faults g.O.Sink.taken g.O.Sink.faults c.args.talk) ended.0 in
    done_served g.S.Source.left g.S.Source.faults g.O.Sink.taken g.O.Sink.faults rounds
    exponent source out c.args.talk desk
    later u c.conclude.ensures.lines c.conclude.ensures.counted _ c.into_streams-source.ensures.source
    c.into_streams-source.ensures.out refl
    (closed_all g.S.Source.left g.S.Source.faults g.O.Sink.taken g.O.Sink.faults rounds
    exponent source out c.args.talk desk
    c.args.closings.items close c.args.end c.in-Ok.ensures.said.0 ended.0 (g.O.Sink.taken u.out) said)

pub unreachable-requires : goal.unreachable-requires
unreachable-requires g c =
    cut_is_fault (g.O.Sink.faults c.args.talk.out) (g.O.Sink.faults c.conclude.new.self.out) c.args.talk.out
    c.conclude.new.self.out c.in-Err.cut c.args.end c.in-Err.ensures.cut
    c.in-Err.ensures.fault c.in_default.not-Fault

pub returns : goal.returns
returns g c = λ rounds exponent source out desk ended close.
    let before = g.O.Sink.taken c.args.talk.out in
    let u = c.conclude.new.self in
    let long : length c.args.talk.lines.bytes.buffer ≡ 512 = search rules in
    let e = c.in-Err.ensures in
    let later = ended_later rounds exponent
    (at_start g.S.Source.left g.S.Source.faults g.O.Sink.taken g.O.Sink.faults source out)
    c.args.end desk
    (streams g.S.Source.left g.S.Source.faults g.O.Sink.taken g.O.Sink.faults c.args.talk) ended.0 in
    fault_served g.S.Source.left g.S.Source.faults g.O.Sink.taken g.O.Sink.faults rounds
    exponent source out c.args.talk desk
    later u c.conclude.ensures.lines c.conclude.ensures.counted c.stopped.result c.stopped.ensures.source
    c.stopped.ensures.out c.args.end ended.0 c.in-Fault.fault c.stopped.ensures.stop
    (λ good. subst (λ (x : TalkEnd). IsSpeechEnd (g.O.Sink.faults c.args.talk.out) (g.O.Sink.faults u.out) x)
    c.in-Fault.is
    (e.cut good))
    (λ bad. (sym c.in-Fault.is ∙ (e.fault bad).0, (e.fault bad).1))
    (one_ahead c.args.talk.lines.bytes ended.1.reader long)
    (closed_some g.S.Source.left g.S.Source.faults g.O.Sink.taken g.O.Sink.faults rounds
    exponent source out c.args.talk desk
    c.args.closings.items close c.args.end ended.0 (g.O.Sink.taken u.out)
    (λ good. subst (λ (l : List Closing). GrewByPrefix before (g.O.Sink.taken u.out)
    (closing_text l (quits_at c.args.end)))
    c.deref.ensures.value (e.part good))
    (λ bad. ap g.O.Sink.taken (e.fault bad).1))
