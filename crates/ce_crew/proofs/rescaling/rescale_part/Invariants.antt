use Rattle.std.proofs.Common.{◌≡◌, map}
use Rattle.ce_rows.specs.declared.act.Act.TheVariants.{Shrinks}
use Rattle.ce_words.specs.Seats.{board_run}
use Rattle.ce_words.specs.Views.{view}
use Rattle.ce_crew.specs.Gains.{Gains, IsAtWork, HasLoaded}
use Rattle.ce_crew.specs.Turn.{entries_between}
use Rattle.ce_crew.proofs.rescaling.rescale_part.Given as goal

abbrev pub invariant-loop-i : goal.invariant-loop-i
invariant-loop-i l = record {
  work : IsAtWork l.board l.seat l.copy;
  gains : Gains (map (λ j. Shrinks j) (entries_between l.fn.part.from l.i)) 0 (view l.initial.seat) (view l.seat)
      l.initial.copy l.copy;
  part : (view l.seat).place.part ≡ l.fn.part;
  loaded : HasLoaded (board_run l.board) (view l.seat) l.fn.part l.copy;
}
