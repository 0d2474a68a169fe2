use Rattle.ce_words.specs.Views.{view}
use Rattle.ce_crew.specs.Gains.{Gains, IsAtWork}
use Rattle.ce_crew.specs.Turn.{loads_of, entries_between}
use Rattle.ce_crew.proofs.loading.load_all.Given as goal

abbrev pub invariant-loop-i : goal.invariant-loop-i
invariant-loop-i l = record {
  work : IsAtWork l.board l.seat l.copy;
  gains : Gains (loads_of (entries_between 0 l.i)) 0 (view l.initial.seat) (view l.seat) l.initial.copy l.copy;
}
