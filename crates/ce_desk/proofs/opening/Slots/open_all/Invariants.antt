use Rattle.std.proofs.Common.{List}
use Rattle.ce_lines.specs.Bytes.{room_left}
use Rattle.ce_desk.specs.CasesInside.{AreOpenSlots}
use Rattle.ce_desk.specs.Desk.{Slot, early_desk}
use Rattle.ce_desk.specs.OpeningInside.{HasRoom}
use Rattle.ce_desk.specs.TalksInside.{Streams, streams, IsTalk, HasTalked}
use Rattle.ce_desk.proofs.opening.Slots.open_all.Given as goal

abbrev pub invariant-loop-slot : goal.invariant-loop-slot
invariant-loop-slot g l = record {
  room : HasRoom l.self;
  talk : IsTalk l.talk;
  talked : (start : Streams) (slots : List Slot)
      → AreOpenSlots l.fn.self.cases.items l.fn.self.firsts.items l.fn.self.workers.items slots
      → HasTalked l.settings.rounds l.settings.scale start (early_desk slots) l.fn.talk.count
      (streams g.S.Source.left g.S.Source.faults g.O.Sink.taken g.O.Sink.faults l.fn.talk)
      → (after : List Slot) × AreOpenSlots l.self.cases.items l.self.firsts.items l.self.workers.items after
      × HasTalked l.settings.rounds l.settings.scale start (early_desk after) l.talk.count
      (streams g.S.Source.left g.S.Source.faults g.O.Sink.taken g.O.Sink.faults l.talk);
}

abbrev pub decreases-loop-slot : goal.decreases-loop-slot
decreases-loop-slot g l = room_left l.talk.lines.bytes
