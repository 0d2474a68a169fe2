use Rattle.std.proofs.Common.{◌≡◌, ◌-◌, ◌*◌, ◌/◌, length, All}
use Rattle.ce_solve.specs.Actors.{worker_places, IsFirstBelow}
use Rattle.ce_solve.specs.ActorsInside.{IsHired, ArePartsFrom, AreSessionsFrom, sessions_in}
use Rattle.ce_solve.proofs.solving.hire_all.Given as goal

abbrev pub invariant-loop-i : goal.invariant-loop-i
invariant-loop-i l = record {
  first : IsFirstBelow l.board l.first ((l.settings.workers - l.i) * l.entries / l.settings.workers)
      (length l.actors.items);
  hired : All (IsHired l.board l.prepared.vector.items l.settings.turns l.settings.reads) l.actors.items;
  parts : ArePartsFrom l.entries l.settings.workers (l.settings.workers - l.i) (worker_places l.actors.items);
  count : length (worker_places l.actors.items) ≡ l.i;
  all : length l.actors.items ≡ l.i;
  none : sessions_in l.actors.items ≡ 0;
  sessions : AreSessionsFrom 0 l.actors.items;
}
