use Rattle.std.proofs.Common.{◌++◌, ◌∙◌, subst, refl}
use Rattle.ce_check.specs.ChecksInside.{expected}
use Rattle.ce_check.specs.Verdicts.{IsVerdict}
use Rattle.ce_check.proofs.CheckLaws.{left_same, none_is, next_is, starts, item_refused, goes_on, bytes_stay}
use Rattle.ce_check.proofs.EndLaws.{end_verdict, none_tells}
use Rattle.ce_check.proofs.checking.check_parts.Goals as goal

pub loop-next-init : goal.loop-next-init
loop-next-init c =
    let first = c.next-next.ensures in
    let left =
    left_same c.next-next.result c.start-angles.result c.next-next.new.self first.some first.none first.ended in
    record {
      checking =
          starts c.args.order c.args.scale c.args.view.now c.start-angles.result
          (expected c.next-next.result ++ c.next-next.new.self) c.requires c.start-angles.ensures.angles left;
      bytes = refl;
      ended = none_is c.next-next.result _ first.ended;
    }

pub look_at-requires-clause-next : goal.look_at-requires-clause-next
look_at-requires-clause-next c =
    next_is c.args.order c.args.scale c.loop-next.view c.next.new.self c.loop-next.next c.loop-next.angles
    c.loop-next.count c.loop-next.invariant.checking

pub returns-in-Some : goal.returns-in-Some
returns-in-Some c =
    let step = c.in-Item.ensures in
    let look = c.in_ok-cause-in-Item.ensures step.version step.item step.shown in
    item_refused c.args.order c.args.scale c.loop-next.view c.next.new.self c.loop-next.next c.loop-next.angles
    c.loop-next.count c.loop-next.invariant.checking c.in-Item.item step c.in-Some.cause c.args.view.now.bytes
    c.loop-next.invariant.bytes c.loop-next.invariant.ended (rw c.in-Some.is at look)

pub loop-next-preserved : goal.loop-next-preserved
loop-next-preserved c =
    let step = c.in-Item.ensures in
    let look = c.in_ok-cause-in-Item.ensures step.version step.item step.shown in
    let more = c.next-next-in-Item.ensures in
    let left =
    left_same c.next-next-in-Item.result c.loop-next.angles c.next-next-in-Item.new.self more.some more.none
    more.ended in
    record {
      checking =
          goes_on c.args.order c.args.scale c.loop-next.view c.next.new.self c.loop-next.next c.loop-next.angles
          c.loop-next.count c.loop-next.invariant.checking c.in-Item.item step
          (expected c.next-next-in-Item.result ++ c.next-next-in-Item.new.self) left
          (rw c.in_default.is at look);
      bytes = bytes_stay c.args.order c.args.scale c.loop-next.view c.next.new.self c.loop-next.next c.loop-next.angles
          c.loop-next.count c.loop-next.invariant.checking c.in-Item.item step ∙ c.loop-next.invariant.bytes;
      ended = none_is c.next-next-in-Item.result _ more.ended;
    }

pub returns-in-End : goal.returns-in-End
returns-in-End c =
    subst (λ b. IsVerdict b c.look_at_end.result) c.loop-next.invariant.bytes
    (end_verdict c.args.order c.args.scale c.loop-next.view c.next.new.self c.loop-next.next c.loop-next.angles
    c.loop-next.count c.in-End.line c.in-End.told c.loop-next.invariant.checking c.in-End.ensures
    c.loop-next.invariant.ended c.is_none.result c.look_at_end.result
    (none_tells c.loop-next.next c.is_none.result c.is_none.ensures) c.look_at_end.ensures)
