use Rattle.std.proofs.Common.{ℕ, Option, Ok, subst, ap, ◌∙◌}
use Rattle.std.specs.Prelude.{Result}
use Rattle.ce_desk.specs.TalksInside.{streams, IsAfterLine}
use Rattle.ce_desk.specs.declared.talk.TalkEnd.{TalkEnd}
use Rattle.ce_desk.proofs.Talking.{next_end, err_is}
use Rattle.ce_desk.specs.Desk.{early_desk}
use Rattle.ce_desk.proofs.opening.Slots.open_all.Goals as goal

pub returns-in-Some-clause-next : goal.returns-in-Some-clause-next
returns-in-Some-clause-next g c = λ start slots h talked.
    let u = c.take_line.new.talk in
    let b = c.loop-slot.invariant.talked start slots h talked in
    let a = c.take_line.ensures.after start b.0 b.1 b.2 in (
      a.0,
      a.1,
      subst
          (λ (r : Result (Option ℕ) TalkEnd). IsAfterLine c.args.settings.now.rounds c.args.settings.now.scale
          start r (early_desk a.0) u.count
          (streams g.S.Source.left g.S.Source.faults g.O.Sink.taken g.O.Sink.faults u))
          (c.in_ok-slot.was ∙ ap (λ (x : Option ℕ). Ok x) c.in-Some.is) a.2,
    )

pub returns-in_err-slot-clause-next : goal.returns-in_err-slot-clause-next
returns-in_err-slot-clause-next g c = λ start slots h talked.
    let u = c.take_line.new.talk in
    let b = c.loop-slot.invariant.talked start slots h talked in
    let a = c.in_err-slot.ensures.after start b.0 b.1 b.2 in (
      a.0,
      a.1,
      next_end c.args.settings.now.rounds c.args.settings.now.scale start (early_desk a.0) u.count
          (streams g.S.Source.left g.S.Source.faults g.O.Sink.taken g.O.Sink.faults u)
          c.from_residual.result c.in_err-slot.field-0.0
          (err_is c.from_residual.result c.in_err-slot.field-0.0 c.from_residual.ensures) a.2,
    )

pub loop-slot-preserved : goal.loop-slot-preserved
loop-slot-preserved g c = record {
  room = c.take_line.ensures.room;
  talk = c.take_line.ensures.talk;
  talked = λ start slots h talked.
      let u = c.take_line.new.talk in
      let b = c.loop-slot.invariant.talked start slots h talked in
      let a = c.in_ok-slot.ensures.after start b.0 b.1 b.2 in (
        a.0,
        a.1,
        subst
            (λ (o : Option ℕ). IsAfterLine c.args.settings.now.rounds c.args.settings.now.scale start
            (Ok o) (early_desk a.0) u.count
            (streams g.S.Source.left g.S.Source.faults g.O.Sink.taken g.O.Sink.faults u)) c.in_default.is a.2,
      );
}
