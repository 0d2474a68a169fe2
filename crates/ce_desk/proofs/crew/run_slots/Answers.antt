use Rattle.std.proofs.Common.{◌≡◌, slice_index_or, subst, arith}
use Rattle.ce_desk.specs.CasesInside.{CanRunSlot}
use Rattle.ce_desk.specs.declared.case.Case.{Case}
use Rattle.ce_desk.proofs.Slots.{can_run_slot}
use Rattle.ce_desk.proofs.crew.run_slots.Goals as goal

pub run_slot-requires : goal.run_slot-requires
run_slot-requires g c =
    let before = c.loop-slot.invariant.ran in
    let count = c.requires.count in
    let can = can_run_slot c.args.cases.now c.args.workers.now c.loop-slot.workers c.loop-slot.slot
    before c.index-cases-slot.result
    c.index-workers-slot.result c.requires (omega (arith, count, c.loop-slot-test.true, c.loop-slot.auto)) in
    let is : slice_index_or c.args.cases.now c.loop-slot.slot c.index-cases-slot.result ≡ c.index-cases-slot.result =
    (let a = c.index-cases-slot.is in cc) in
    subst (λ (x : Case). CanRunSlot x
    (slice_index_or c.loop-slot.workers c.loop-slot.slot c.index-workers-slot.result)) is can
