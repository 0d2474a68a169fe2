use Rattle.std.proofs.Common.{ap, ◌∙◌}
use Rattle.ce_crew.specs.declared.room.WorkRoom.{WorkRoom}
use Rattle.ce_solve.proofs.collecting.join_worker.Goals as goal

pub returns-clause-best : goal.returns-clause-best
returns-clause-best c = let f = c.finish.ensures in let p = c.pause-room.ensures.0 in let b = c.better_of.ensures in (
  c.finish.result,
  b,
  f.low.0 ∙ ap (λ (r : WorkRoom). r.low) p,
  f.low.1 ∙ ap
      (λ (r : WorkRoom). r.low_vector.items) p,
  f.high.0 ∙ ap (λ (r : WorkRoom). r.high) p,
  f.high.1 ∙ ap
      (λ (r : WorkRoom). r.high_vector.items) p,
)
