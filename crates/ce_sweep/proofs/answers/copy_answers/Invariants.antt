use Rattle.std.proofs.Common.{◌≡◌, ◌<◌, ℕ, length, get_or}
use Rattle.ce_sweep.specs.AnswersInside.{IsCopyAt}
use Rattle.ce_solve.specs.declared.angle.Answer.{Answer}
use Rattle.ce_sweep.proofs.answers.copy_answers.Given as goal

abbrev pub invariant-loop-place : goal.invariant-loop-place
invariant-loop-place l = record {
  each : length l.answers.items ≡ l.place;
  copies : (k : ℕ) (d : Answer) → k < l.place → IsCopyAt l.angles l.of l.solutions k (get_or l.answers.items k d);
}
