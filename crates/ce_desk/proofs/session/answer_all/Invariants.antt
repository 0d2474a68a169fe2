use Rattle.std.proofs.Common.{◌<◌, ◌+◌, ◌*◌, ℕ, List, length}
use Rattle.std.specs.Prelude.{IfOk}
use Rattle.ce_lines.specs.Bytes.{room_left}
use Rattle.ce_desk.specs.CasesInside.{AreFirsts, KeepsTurns}
use Rattle.ce_desk.specs.Desk.{Slot, Desk}
use Rattle.ce_desk.specs.TalksInside.{Streams, streams, IsTalk, IsNext}
use Rattle.ce_desk.proofs.Sessions.{is_slot}
use Rattle.ce_desk.proofs.session.answer_all.Given as goal

abbrev pub invariant-loop-next : goal.invariant-loop-next
invariant-loop-next g l = record {
  talk : IsTalk l.talk;
  firsts : (slots : List Slot) × AreFirsts l.cases slots l.firsts;
  there : IfOk l.next (λ slot. slot < length l.cases);
  talked : (rounds exponent : ℕ) (start : Streams) (desk : Desk) → AreFirsts l.cases desk.slots l.fn.firsts
      → IsNext rounds exponent start l.fn.first desk l.fn.talk.count
      (streams g.S.Source.left g.S.Source.faults g.O.Sink.taken g.O.Sink.faults l.fn.talk)
      → (after : Desk) × AreFirsts l.cases after.slots l.firsts × KeepsTurns desk.slots after.slots
      × IsNext rounds exponent start l.next after l.talk.count
      (streams g.S.Source.left g.S.Source.faults g.O.Sink.taken g.O.Sink.faults l.talk);
}

abbrev pub decreases-loop-next : goal.decreases-loop-next
decreases-loop-next g l = 2 * room_left l.talk.lines.bytes + is_slot l.next
