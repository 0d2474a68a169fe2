use Rattle.std.proofs.Common.{◌<◌, List, length, inr, refl, sym, ap, ◌∙◌, subst, arith}
use Rattle.ce_desk.proofs.Hiring.{written_back, next_within, firsts_open, hired_open}
use Rattle.ce_desk.specs.CrewsInside.{AreHired}
use Rattle.ce_desk.specs.declared.actor.Actor.{Actor}
use Rattle.ce_desk.proofs.serving.hire_and_run.Goals as goal

pub returns-in_default-with_capacity : goal.returns-in_default-with_capacity
returns-in_default-with_capacity g c = λ rounds exponent source out desk early opened h.
    c.stopped_early-in_default-with_capacity.ensures rounds exponent source out desk c.args.next early (inr refl) h

pub run_and_close-requires-clause-session : goal.run_and_close-requires-clause-session
run_and_close-requires-clause-session g c lifetimes outlive =
    let s = c.args.slots in
    let go = c.requires.opened in
    record {
      talk = c.requires.talk;
      slots = go.4.slots;
      firsts = firsts_open s.cases.items s.firsts.items s.workers.items go.4.slots go.5;
      next = next_within (length s.cases.items) c.args.next c.requires.there;
    }

pub run_and_close-requires-clause-some : goal.run_and_close-requires-clause-some
run_and_close-requires-clause-some g c lifetimes outlive =
    let crews = c.deal.new.crews in
    let long = c.deal.auto.crews in
    let value = ap (λ (l : List (Actor g.row.S.Denot g.row.O.Denot)). length l) c.deref_mut.ensures.value in
    let count = c.in-Ok.ensures.0.count_is in
    let some = c.requires.some in
    subst (λ (l : List (Actor g.row.S.Denot g.row.O.Denot)). 0 < length l)
    (sym (written_back c.in-Ok.crews.len crews c.in-Ok.crews.items (long ∙ c.deref_mut.ensures.len)))
    (omega (arith, long, value, count, some))

pub run_and_close-requires-clause-going : goal.run_and_close-requires-clause-going
run_and_close-requires-clause-going g c lifetimes outlive =
    let s = c.args.slots in
    let go = c.requires.opened in
    let crews = c.deal.new.crews in (
      go.0,
      go.1,
      go.2,
      go.3,
      go.4,
      firsts_open s.cases.items s.firsts.items s.workers.items go.4.slots go.5,
      subst (λ (l : List (Actor g.row.S.Denot g.row.O.Denot)). AreHired s.cases.items go.4.slots l)
          (sym (written_back c.in-Ok.crews.len crews c.in-Ok.crews.items (c.deal.auto.crews ∙ c.deref_mut.ensures.len)))
          (hired_open s.cases.items s.firsts.items s.workers.items go.4.slots go.5 crews c.deal.ensures),
      go.6,
    )

pub returns : goal.returns
returns g c = λ rounds exponent source out desk early opened h.
    let s = c.args.slots in
    let crews = c.deal.new.crews in
    c.run_and_close.ensures rounds exponent source out desk
    (firsts_open s.cases.items s.firsts.items s.workers.items desk.slots opened)
    (subst (λ (l : List (Actor g.row.S.Denot g.row.O.Denot)). AreHired s.cases.items desk.slots l)
    (sym (written_back c.in-Ok.crews.len crews c.in-Ok.crews.items (c.deal.auto.crews ∙ c.deref_mut.ensures.len)))
    (hired_open s.cases.items s.firsts.items s.workers.items desk.slots opened crews c.deal.ensures))
    h
