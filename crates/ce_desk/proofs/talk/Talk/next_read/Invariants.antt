use Rattle.std.proofs.Common.{◌≡◌, ◌≤◌, ℕ, true, length}
use Rattle.ce_lines.specs.Bytes.{room_left}
use Rattle.ce_desk.specs.Desk.{Desk}
use Rattle.ce_desk.specs.TalksInside.{Streams, streams, IsTalk, HasTalked}
use Rattle.ce_desk.proofs.talk.Talk.next_read.Given as goal

abbrev pub invariant-loop-slot : goal.invariant-loop-slot
invariant-loop-slot g l = record {
  talk : IsTalk l.self;
  room : room_left l.self.lines.bytes ≤ room_left l.fn.self.lines.bytes;
  talked : (rounds exponent : ℕ) (start : Streams) (desk : Desk) → desk.late ≡ true → length desk.slots ≡ l.slots
      → HasTalked rounds exponent start desk l.fn.self.count
      (streams g.S.Source.left g.S.Source.faults g.O.Sink.taken g.O.Sink.faults l.fn.self)
      → HasTalked rounds exponent start desk l.self.count
      (streams g.S.Source.left g.S.Source.faults g.O.Sink.taken g.O.Sink.faults l.self);
}

abbrev pub decreases-loop-slot : goal.decreases-loop-slot
decreases-loop-slot g l = room_left l.self.lines.bytes
