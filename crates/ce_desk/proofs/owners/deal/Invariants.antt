use Rattle.std.proofs.Common.{◌≡◌, ◌++◌, length}
use Rattle.std.specs.Vec.Iter.{into_iter_items, into_iter_len}
use Rattle.ce_desk.proofs.Dealing.{DealtBelow}
use Rattle.ce_desk.proofs.owners.deal.Given as goal

abbrev pub invariant-loop-worker : goal.invariant-loop-worker
invariant-loop-worker g l = record {
  split : l.yielded ++ into_iter_items l.worker-iterator ≡ into_iter_items l.initial.worker-iterator;
  len : into_iter_len l.worker-iterator ≡ length (into_iter_items l.worker-iterator);
  slot : l.slot ≡ length l.yielded;
  count : length l.crews ≡ length l.fn.crews;
  dealt : DealtBelow (length (into_iter_items l.initial.worker-iterator)) l.yielded l.crews;
}
