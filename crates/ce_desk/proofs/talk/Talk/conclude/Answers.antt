use Rattle.std.proofs.Common.{sym, subst}
use Rattle.std.specs.Prelude.{codes}
use Rattle.ce_port.specs.WriteAll.{GrewByPrefix}
use Rattle.ce_port.proofs.Paging.{prefix-after, prefix-more}
use Rattle.ce_angle.specs.Spelled.{ended}
use Rattle.ce_desk.specs.DeskText.{closing_lines, closing_text}
use Rattle.ce_desk.specs.TalksInside.{quits_at}
use Rattle.ce_desk.specs.declared.talk.TalkEnd.{TalkEnd}
use Rattle.ce_desk.proofs.Writing.{if_err, if_err_map}
use Rattle.ce_desk.proofs.talk.Talk.conclude.Goals as goal

pub returns-in_err-say_closings-in-Quit-clause-part : goal.returns-in_err-say_closings-in-Quit-clause-part
returns-in_err-say_closings-in-Quit-clause-part g c =
    let closings = c.args.closings.now in
    let before = g.O.Sink.taken c.args.self.now.out in
    let now = g.O.Sink.taken c.say_closings.new.self.out in
    if_err c.from_residual.result
    (λ _. subst (λ (end : TalkEnd). GrewByPrefix before now (closing_text closings (quits_at end)))
    (sym c.in-Quit.is)
    (prefix-more before now (closing_lines 0 closings) (ended (codes "bye"))
    c.in_err-say_closings-in-Quit.ensures.part))

pub returns-in_ok-say_closings-in-Quit-clause-part : goal.returns-in_ok-say_closings-in-Quit-clause-part
returns-in_ok-say_closings-in-Quit-clause-part g c =
    let closings = c.args.closings.now in
    let before = g.O.Sink.taken c.args.self.now.out in
    let between = g.O.Sink.taken c.say_closings.new.self.out in
    let now = g.O.Sink.taken c.say.new.self.out in
    if_err_map c.say.result
    (λ part _. subst (λ (end : TalkEnd). GrewByPrefix before now (closing_text closings (quits_at end)))
    (sym c.in-Quit.is)
    (prefix-after before between now (closing_lines 0 closings) (ended (codes "bye"))
    c.in_ok-say_closings-in-Quit.ensures.said part)) c.say.ensures.part
