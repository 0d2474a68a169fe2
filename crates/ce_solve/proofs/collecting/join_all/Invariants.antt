use Rattle.std.proofs.Common.{◌≡◌, ◌++◌, ◌≤◌, length, All, vec_capacity}
use Rattle.std.specs.Vec.Iter.{into_iter_items, into_iter_len}
use Rattle.ce_words.specs.Logs.{Each}
use Rattle.ce_words.specs.Seats.{Sits, board_run}
use Rattle.ce_words.specs.Views.{view}
use Rattle.ce_words.specs.declared.view.Role.TheVariants.{First}
use Rattle.ce_solve.specs.Actors.{IsOver, IsTold, worker_places, places_of, readings_of, joined_all}
use Rattle.ce_solve.specs.ActorsInside.{AreClosingEnds}
use Rattle.ce_solve.proofs.collecting.join_all.Given as goal

abbrev pub invariant-loop-actor : goal.invariant-loop-actor
invariant-loop-actor l = record {
  split : l.yielded ++ into_iter_items l.actor-iterator ≡ into_iter_items l.initial.actor-iterator;
  len : into_iter_len l.actor-iterator ≡ length (into_iter_items l.actor-iterator);
  first : Sits l.board l.first;
  role : (view l.first).role ≡ First;
  view : view l.first ≡ joined_all (view l.initial.first) (places_of l.yielded);
  over : All (IsOver l.board l.fn.best.low_vector.items) (into_iter_items l.actor-iterator);
  best : AreClosingEnds (board_run l.board) l.fn.best.low_vector.items (worker_places l.yielded) l.best;
  told : Each IsTold l.yielded;
  all : l.readings.items ≡ readings_of l.yielded;
  room : vec_capacity l.initial.readings ≤ vec_capacity l.readings;
}
