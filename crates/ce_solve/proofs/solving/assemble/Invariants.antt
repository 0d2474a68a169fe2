use Rattle.std.proofs.Common.{◌≡◌, ◌+◌, length, All}
use Rattle.ce_solve.specs.Actors.{worker_places, IsFirstBelow}
use Rattle.ce_solve.specs.ActorsInside.{IsHired, ArePartsFrom, AreSessionsFrom, sessions_in}
use Rattle.ce_solve.proofs.solving.assemble.Given as goal

abbrev pub invariant-loop-s : goal.invariant-loop-s
invariant-loop-s l = record {
  first : IsFirstBelow l.board l.first 0 (length l.actors.items);
  hired : All (IsHired l.board l.prepared.vector.items l.settings.turns l.settings.reads) l.actors.items;
  parts : ArePartsFrom l.entries l.settings.workers 0 (worker_places l.actors.items);
  count : length (worker_places l.actors.items) ≡ l.settings.workers;
  all : length l.actors.items ≡ l.settings.workers + l.s;
  many : sessions_in l.actors.items ≡ l.s;
  sessions : AreSessionsFrom 0 l.actors.items;
}
