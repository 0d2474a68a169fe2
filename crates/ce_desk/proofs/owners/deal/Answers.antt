use Rattle.std.proofs.Common.{◌≡◌, List, [], ◌∷◌, ◌++◌, length, refl, sym, ap, ◌∙◌, append_assoc}
use Rattle.std.proofs.Common.{length-append, rules, arith}
use Rattle.std.specs.Vec.Iter.{into_iter_items}
use Rattle.ce_crew.specs.declared.worker.Worker.{Worker}
use Rattle.ce_desk.proofs.Dealing.{none_dealt, dealt_more, all_dealt, below_all, emptied}
use Rattle.ce_desk.proofs.owners.deal.Goals as goal

pub loop-worker-init : goal.loop-worker-init
loop-worker-init g c =
    let gives : into_iter_items c.into_iter-worker-iterator.result ≡ c.args.workers.items = search rules in
    record {
      split = refl;
      len = search rules;
      slot = refl;
      count = refl;
      dealt = none_dealt (length c.args.workers.items) (length c.args.crews.now)
          (length (into_iter_items c.into_iter-worker-iterator.result)) c.args.crews.now
          c.requires.idle (ap (λ (l : List Worker). length l) gives);
    }

pub hand_out-requires-clause-crews : goal.hand_out-requires-clause-crews
hand_out-requires-clause-crews g c =
    let at = c.loop-worker in
    let all = into_iter_items c.into_iter-worker-iterator.result in (
      length all,
      below_all at.yielded (into_iter_items at.worker-iterator) (into_iter_items c.next.new.self)
          all c.in-Some.worker at.slot
          at.invariant.split c.in-Some.ensures.steps.0 at.invariant.slot,
      at.invariant.dealt.crews_are,
    )

pub loop-worker-preserved : goal.loop-worker-preserved
loop-worker-preserved g c =
    let at = c.loop-worker in
    let x = c.in-Some.worker in
    let all = into_iter_items c.into_iter-worker-iterator.result in
    let steps : into_iter_items at.worker-iterator ≡ x ∷ into_iter_items c.next.new.self = c.in-Some.ensures.steps.0 in
    let was = at.invariant.len in
    let less = c.in-Some.ensures.steps.1 in
    let short = ap (λ (l : List Worker). length l) steps in
    let count = at.invariant.count in
    let some = c.requires.some in
    let slot = at.invariant.slot in
    let long = length-append at.yielded (x ∷ []) in
    record {
      split = append_assoc at.yielded (x ∷ []) (into_iter_items c.next.new.self)
          ∙ (ap (λ (l : List Worker). at.yielded ++ l) (sym steps) ∙ at.invariant.split);
      len = omega arith;
      slot = omega (arith, slot, long);
      count = c.hand_out.ensures.crews.count ∙ count;
      dealt = dealt_more (length all) at.slot at.yielded at.crews c.hand_out.new.crews x
          (omega (arith, count, some)) at.invariant.dealt slot
          (below_all at.yielded (into_iter_items at.worker-iterator) (into_iter_items c.next.new.self) all x at.slot
          at.invariant.split steps slot)
          c.hand_out.ensures.crews;
    }

pub returns : goal.returns
returns g c =
    let at = c.loop-worker in
    let gives : into_iter_items c.into_iter-worker-iterator.result ≡ c.args.workers.items = search rules in
    let empty : into_iter_items at.worker-iterator ≡ [] =
    emptied (into_iter_items at.worker-iterator)
    (let a = at.invariant.len in let b = c.in-None.ensures.steps.0 in omega (arith, a, b)) in
    all_dealt at.yielded (into_iter_items at.worker-iterator) (into_iter_items c.into_iter-worker-iterator.result)
    c.args.workers.items at.crews
    at.invariant.split empty gives at.invariant.dealt
