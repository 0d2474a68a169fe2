use Rattle.std.proofs.Common.{◌≡◌, take}
use Rattle.ce_core.specs.Runs.{HasAskedAtMost, after_events}
use Rattle.ce_core.proofs.core_machine.Core.play.Given as goal

abbrev pub invariant-loop-event : goal.invariant-loop-event
invariant-loop-event l = record {
  played : l.self ≡ record l.initial.self {
    machine =
        after_events l.initial.self.rows l.initial.self.ranks l.initial.self.machine (take l.event-index l.events);
  };
  asked : HasAskedAtMost l.event-index l.self.machine;
}
