use Rattle.std.proofs.Common.{◌≡◌, ◌≤◌, List, length, vec_capacity}
use Rattle.ce_desk.specs.CasesInside.{AreFirsts}
use Rattle.ce_desk.specs.CrewsInside.{AreDone}
use Rattle.ce_desk.specs.Desk.{Slot}
use Rattle.ce_desk.proofs.Closings.{ClosedBelow}
use Rattle.ce_desk.proofs.closing.close_all.Given as goal

abbrev pub invariant-loop-slot : goal.invariant-loop-slot
invariant-loop-slot g l = record {
  count : length l.closings.items ≡ l.slot;
  room : vec_capacity l.fn.closings ≤ vec_capacity l.closings;
  firsts : length l.firsts ≡ length l.cases;
  crews : length l.crews ≡ length l.fn.crews;
  closed : (slots : List Slot) → AreFirsts l.cases slots l.fn.firsts → AreDone l.cases slots l.fn.crews
      → ClosedBelow l.cases slots l.firsts l.crews l.closings.items l.slot;
}
