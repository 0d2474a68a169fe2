use Rattle.std.proofs.Common.{◌≡◌, ◌<◌, ◌≤◌, ◌+◌, ℕ, length, vec_capacity}
use Rattle.ce_desk.specs.CrewsInside.{AreCrewsOf, HaveNone}
use Rattle.ce_desk.proofs.owners.idle_crews.Given as goal

abbrev pub invariant-loop : goal.invariant-loop
invariant-loop g l = record {
  count : length l.crews.items ≡ l.counter;
  crews : AreCrewsOf l.slots l.crews.items;
  none : (slot : ℕ) → slot < l.slots → HaveNone l.crews.items slot;
  room : l.count + 1 ≤ vec_capacity l.crews;
}
