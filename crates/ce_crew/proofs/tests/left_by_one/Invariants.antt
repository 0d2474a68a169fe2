use Rattle.ce_words.specs.Seats.{Sits}
use Rattle.ce_crew.proofs.tests.left_by_one.Given as goal

abbrev pub invariant-loop-i : goal.invariant-loop-i
invariant-loop-i l = record { sits : Sits l.board l.first }
