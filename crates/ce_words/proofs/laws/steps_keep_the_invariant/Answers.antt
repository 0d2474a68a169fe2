use Rattle.ce_words.proofs.Joins.{join_keeps}
use Rattle.ce_words.proofs.Seats.{split_keeps}
use Rattle.ce_words.proofs.Steps.{step_keeps}
use Rattle.ce_words.proofs.laws.steps_keep_the_invariant.Goals as goal

pub returns : goal.returns
returns c = record {
  step = λ s views id v act carried k at live may. step_keeps s views id v k at live act carried may;
  split = λ s views id v part k at first can. split_keeps s views id v part k at first can;
  join = λ s views id v other w k at ne there first second. join_keeps s views id v other w k at ne there first second;
}
