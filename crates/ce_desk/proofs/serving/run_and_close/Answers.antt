use Rattle.std.proofs.Common.{All, ◌≡◌, ◌<◌, ◌≤◌, List, length, sym, subst, vec_capacity, rules, arith}
use Rattle.std.specs.Prelude.{vec_len}
use Rattle.std.proofs.lemmas.List.Elements.{All-cons}
use Rattle.ce_desk.proofs.Dealing.{no_room}
use Rattle.ce_desk.proofs.Running.{inserted, can_run_crews, went_on, firsts_as, done_as}
use Rattle.ce_desk.specs.ActorsInside.{CanRun}
use Rattle.ce_desk.specs.declared.actor.Actor.{Actor}
use Rattle.ce_desk.specs.declared.actor.Actor.TheVariants.{Session as ASession}
use Rattle.ce_desk.specs.declared.case.Case.{Case}
use Rattle.ce_desk.proofs.serving.run_and_close.Goals as goal

pub unreachable-requires : goal.unreachable-requires
unreachable-requires g c =
    let full = no_room c.insert.result (vec_capacity c.args.crews ≤ vec_len c.args.crews) c.is_err.result
    c.is_err.ensures.value c.if-is_err.true
    c.insert.ensures.full in
    let len : vec_len c.args.crews ≡ length c.args.crews.items = search rules in
    let room = c.requires.room in
    absurd (omega (arith, full, len, room))

pub run_beside-session-requires-clause-first : goal.run_beside-session-requires-clause-first
run_beside-session-requires-clause-first g c = λ lifetimes outlive. (
  c.args.session,
  c.args.crews.items,
  inserted c.insert.result c.args.crews.items c.insert.new.self.items (ASession c.args.session) c.is_err.result
      c.is_err.ensures.value c.if-is_err.false
      c.insert.ensures.items,
)

pub run_beside-session-requires-clause-run : goal.run_beside-session-requires-clause-run
run_beside-session-requires-clause-run g c = λ lifetimes outlive.
    let items = inserted c.insert.result c.args.crews.items c.insert.new.self.items (ASession c.args.session)
    c.is_err.result c.is_err.ensures.value
    c.if-is_err.false c.insert.ensures.items in
    let go = c.requires.going in
    let all = All-cons (CanRun c.args.cases.items) (ASession c.args.session) c.args.crews.items c.requires.session
    (can_run_crews c.args.cases.items go.4.slots c.args.crews.items go.6) in
    subst (λ (l : List Case). All (CanRun l) c.insert.new.self.items) (sym c.deref.ensures.value)
    (subst (λ (l : List (Actor g.row.S.Denot g.row.O.Denot)). All (CanRun c.args.cases.items) l) (sym items) all)

pub close_all-requires-clause-some : goal.close_all-requires-clause-some
close_all-requires-clause-some g c =
    let items = inserted c.insert.result c.args.crews.items c.insert.new.self.items (ASession c.args.session)
    c.is_err.result c.is_err.ensures.value
    c.if-is_err.false c.insert.ensures.items in
    let r = c.run_beside-session in
    let go = c.requires.going in
    let w = went_on g.S.Source.left g.S.Source.faults g.O.Sink.taken g.O.Sink.faults go.0 go.1 go.2 go.3 go.4
    c.args.cases.items c.deref.result.now
    c.args.session r.result.0 c.args.crews.items r.result.1.items c.deref.ensures.value
    (r.ensures.session c.args.session c.args.crews.items items)
    (r.ensures.crews c.args.session c.args.crews.items items) c.requires.some go.5 go.6 go.7 in
    subst (λ (l : List (Actor g.row.S.Denot g.row.O.Denot)). 0 < length l) (sym c.deref_mut-2.ensures.value) w.some

pub close_all-requires-clause-done : goal.close_all-requires-clause-done
close_all-requires-clause-done g c =
    let items = inserted c.insert.result c.args.crews.items c.insert.new.self.items (ASession c.args.session)
    c.is_err.result c.is_err.ensures.value
    c.if-is_err.false c.insert.ensures.items in
    let r = c.run_beside-session in
    let go = c.requires.going in
    let w = went_on g.S.Source.left g.S.Source.faults g.O.Sink.taken g.O.Sink.faults go.0 go.1 go.2 go.3 go.4
    c.args.cases.items c.deref.result.now
    c.args.session r.result.0 c.args.crews.items r.result.1.items c.deref.ensures.value
    (r.ensures.session c.args.session c.args.crews.items items)
    (r.ensures.crews c.args.session c.args.crews.items items) c.requires.some go.5 go.6 go.7 in (
      w.desk.slots,
      firsts_as c.args.cases.items c.deref-2.result.now w.desk.slots r.result.0.firsts.items
          c.deref_mut.result.now c.deref-2.ensures.value
          c.deref_mut.ensures.value w.firsts,
      done_as c.args.cases.items c.deref-2.result.now w.desk.slots r.result.1.items
          c.deref_mut-2.result.now c.deref-2.ensures.value
          c.deref_mut-2.ensures.value w.done,
    )

pub unreachable-requires-in_default : goal.unreachable-requires-in_default
unreachable-requires-in_default g c =
    let items = inserted c.insert.result c.args.crews.items c.insert.new.self.items (ASession c.args.session)
    c.is_err.result c.is_err.ensures.value
    c.if-is_err.false c.insert.ensures.items in
    let r = c.run_beside-session in
    let go = c.requires.going in
    let w = went_on g.S.Source.left g.S.Source.faults g.O.Sink.taken g.O.Sink.faults go.0 go.1 go.2 go.3 go.4
    c.args.cases.items c.deref.result.now
    c.args.session r.result.0 c.args.crews.items r.result.1.items c.deref.ensures.value
    (r.ensures.session c.args.session c.args.crews.items items)
    (r.ensures.crews c.args.session c.args.crews.items items) c.requires.some go.5 go.6 go.7 in
    c.in_default.not-Err w.end w.next

pub conclude-requires : goal.conclude-requires
conclude-requires g c =
    let items = inserted c.insert.result c.args.crews.items c.insert.new.self.items (ASession c.args.session)
    c.is_err.result c.is_err.ensures.value
    c.if-is_err.false c.insert.ensures.items in
    let r = c.run_beside-session in
    let go = c.requires.going in
    let w = went_on g.S.Source.left g.S.Source.faults g.O.Sink.taken g.O.Sink.faults go.0 go.1 go.2 go.3 go.4
    c.args.cases.items c.deref.result.now
    c.args.session r.result.0 c.args.crews.items r.result.1.items c.deref.ensures.value
    (r.ensures.session c.args.session c.args.crews.items items)
    (r.ensures.crews c.args.session c.args.crews.items items) c.requires.some go.5 go.6 go.7 in
    let close = c.close_all.ensures w.desk.slots
    (firsts_as c.args.cases.items c.deref-2.result.now w.desk.slots r.result.0.firsts.items
    c.deref_mut.result.now c.deref-2.ensures.value
    c.deref_mut.ensures.value w.firsts)
    (done_as c.args.cases.items c.deref-2.result.now w.desk.slots r.result.1.items
    c.deref_mut-2.result.now c.deref-2.ensures.value
    c.deref_mut-2.ensures.value w.done) in
    record {
      few = (let n = close.count in let m = w.done.count in let few = c.requires.few in
          omega (arith, n, m, few));
    }

pub returns : goal.returns
returns g c = λ rounds exponent source out desk firsts hired going.
    let items = inserted c.insert.result c.args.crews.items c.insert.new.self.items (ASession c.args.session)
    c.is_err.result c.is_err.ensures.value
    c.if-is_err.false c.insert.ensures.items in
    let r = c.run_beside-session in
    let w = went_on g.S.Source.left g.S.Source.faults g.O.Sink.taken g.O.Sink.faults rounds exponent source out desk
    c.args.cases.items c.deref.result.now
    c.args.session r.result.0 c.args.crews.items r.result.1.items c.deref.ensures.value
    (r.ensures.session c.args.session c.args.crews.items items)
    (r.ensures.crews c.args.session c.args.crews.items items) c.requires.some firsts hired going in
    let close = c.close_all.ensures w.desk.slots
    (firsts_as c.args.cases.items c.deref-2.result.now w.desk.slots r.result.0.firsts.items
    c.deref_mut.result.now c.deref-2.ensures.value
    c.deref_mut.ensures.value w.firsts)
    (done_as c.args.cases.items c.deref-2.result.now w.desk.slots r.result.1.items
    c.deref_mut-2.result.now c.deref-2.ensures.value
    c.deref_mut-2.ensures.value w.done) in
    c.conclude.ensures rounds exponent source out w.desk (w.begun c.in-Err.end c.in-Err.is) close
