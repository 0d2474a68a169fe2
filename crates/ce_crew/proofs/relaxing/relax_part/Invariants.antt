use Rattle.std.proofs.Common.{◌≡◌}
use Rattle.std.specs.List.{flat_map}
use Rattle.ce_words.specs.Seats.{board_run}
use Rattle.ce_words.specs.Views.{view, seen_low, seen_high}
use Rattle.ce_crew.specs.Gains.{Gains, IsAtWork}
use Rattle.ce_crew.specs.Turn.{relaxing_acts, entries_between}
use Rattle.ce_crew.proofs.relaxing.relax_part.Given as goal

abbrev pub invariant-loop-i : goal.invariant-loop-i
invariant-loop-i l = record {
  work : IsAtWork l.board l.seat l.copy;
  gains : Gains (flat_map (relaxing_acts (board_run l.board)) (entries_between l.fn.part.from l.i)) l.greatest
      (view l.initial.seat) (view l.seat) l.initial.copy l.copy;
  part : (view l.seat).place.part ≡ l.fn.part;
  low : seen_low (view l.seat) ≡ seen_low (view l.initial.seat);
  high : seen_high (view l.seat) ≡ seen_high (view l.initial.seat);
}
