use Rattle.std.proofs.Common.{◌≡◌, ◌<◌, ◌≤◌, ◌+◌, List, [], ◌∷◌, length, slice_index_or, slice_set}
use Rattle.std.proofs.Common.{length-append, refl, sym, ap, ◌∙◌, subst, vec_capacity, rules, arith}
use Rattle.std.specs.Prelude.{vec_len}
use Rattle.std.proofs.lemmas.List.{length-set}
use Rattle.ce_crew.specs.declared.worker.Worker.{Worker}
use Rattle.ce_desk.proofs.Closings.{ClosedBelow, none_closed, closed_more, all_closed}
use Rattle.ce_desk.proofs.Dealing.{any_of, one_owner, no_room, pushed_unless}
use Rattle.ce_desk.proofs.Reading.{no_slot}
use Rattle.ce_desk.specs.CasesInside.{IsDoneFor}
use Rattle.ce_desk.specs.declared.case.SlotSeat.{SlotSeat}
use Rattle.ce_desk.specs.declared.closing.Closing.{Closing}
use Rattle.ce_desk.proofs.closing.close_all.Goals as goal

pub loop-slot-init : goal.loop-slot-init
loop-slot-init g c = record {
  count = ap (λ (l : List Closing). length l) c.requires.none;
  room = omega arith;
  firsts = c.requires.done.1.firsts_count;
  crews = refl;
  closed = λ slots f d. none_closed c.args.cases.now slots c.args.firsts.now c.args.crews.now
      c.args.closings.now.items f d;
}

pub worker_of-worker-requires-clause-own : goal.worker_of-worker-requires-clause-own
worker_of-worker-requires-clause-own g c =
    let at = c.loop-slot in
    let d = c.requires.done in
    let within : at.slot < length c.args.cases.now = omega (arith, c.loop-slot-test.true) in
    let own = (at.invariant.closed d.0 d.1 d.2).done at.slot (any_of c.args.cases.now at.slot within)
    no_slot (omega arith) within in
    (own.0, own.1)

pub close_slot-closing-requires : goal.close_slot-closing-requires
close_slot-closing-requires g c =
    let at = c.loop-slot in
    let d = c.requires.done in
    let within : at.slot < length c.args.cases.now = omega (arith, c.loop-slot-test.true) in
    let k = at.invariant.closed d.0 d.1 d.2 in
    let own = k.done at.slot c.index-cases-slot.result no_slot (omega arith) within in
    let some : 0 < length at.crews = (let s = c.requires.some in let n = at.invariant.crews in omega (arith, s, n)) in
    record {
      slot = (
        slice_index_or d.0 at.slot no_slot,
        k.first at.slot c.index-cases-slot.result no_slot c.index-firsts-slot.result (omega arith) within,
        subst (λ (w : Worker). IsDoneFor (slice_index_or c.args.cases.now at.slot c.index-cases-slot.result).board
            (slice_index_or d.0 at.slot no_slot) w)
            (one_owner at.crews at.slot own.0 c.worker_of-worker.result some own.1 c.worker_of-worker.ensures.worker)
            own.2,
      );
    }

pub unreachable-requires : goal.unreachable-requires
unreachable-requires g c =
    let at = c.loop-slot in
    let within : at.slot < length c.args.cases.now = omega (arith, c.loop-slot-test.true) in
    let full = no_room c.push.result (vec_capacity at.closings ≤ vec_len at.closings) c.is_err.result
    c.is_err.ensures.value c.if-is_err.true c.push.ensures.full in
    let len : vec_len at.closings ≡ length at.closings.items = search rules in
    let room = at.invariant.room in
    let asked = c.requires.room in
    let count = at.invariant.count in
    absurd (omega (arith, full, len, room, asked, count, within))

pub loop-slot-preserved : goal.loop-slot-preserved
loop-slot-preserved g c =
    let at = c.loop-slot in
    let within : at.slot < length c.args.cases.now = omega (arith, c.loop-slot-test.true) in
    let some : 0 < length at.crews = (let s = c.requires.some in let n = at.invariant.crews in omega (arith, s, n)) in
    let rest = c.worker_of-worker.ensures.rest in
    let closing = c.close_slot-closing.result in
    let f : SlotSeat =
    (record {
      slot = (slice_index_or at.firsts at.slot c.index-firsts-slot.result).slot;
      seat =
          c.close_slot-closing.new.first;
    }) in
    let items = pushed_unless c.push.result at.closings.items c.push.new.self.items closing c.is_err.result
    c.is_err.ensures.value c.if-is_err.false
    c.push.ensures.items in
    record {
      count = ap (λ (l : List Closing). length l) items
          ∙ (let n = length-append at.closings.items (closing ∷ []) in let was =
          at.invariant.count in omega (arith, n, was));
      room = search rules;
      firsts = length-set at.firsts at.slot f ∙ at.invariant.firsts;
      crews = rest.count ∙ at.invariant.crews;
      closed = λ slots firsts done.
          let k = at.invariant.closed slots firsts done in
          subst (λ (l : List Closing). ClosedBelow c.args.cases.now slots (slice_set at.firsts at.slot f)
          c.worker_of-worker.new.crews l (at.slot + 1)) (sym items)
          (closed_more c.args.cases.now slots at.firsts at.crews c.worker_of-worker.new.crews at.closings.items
          at.slot f closing k at.invariant.count some rest
          (λ x.
          let own = k.done at.slot c.index-cases-slot.result x (omega arith) within in
          c.close_slot-closing.ensures (slice_index_or slots at.slot x)
          (k.first at.slot c.index-cases-slot.result x c.index-firsts-slot.result (omega arith) within)
          (subst (λ (w : Worker). IsDoneFor
          (slice_index_or c.args.cases.now at.slot c.index-cases-slot.result).board
          (slice_index_or slots at.slot x) w)
          (one_owner at.crews at.slot own.0 c.worker_of-worker.result some own.1
          c.worker_of-worker.ensures.worker) own.2)));
    }

pub returns : goal.returns
returns g c = λ slots firsts done.
    let at = c.loop-slot in
    all_closed c.args.cases.now slots at.firsts at.crews at.closings.items at.slot
    (at.invariant.closed slots firsts done) at.invariant.count done.count
    (omega (arith, c.loop-slot-test.false, c.loop-slot.auto))
