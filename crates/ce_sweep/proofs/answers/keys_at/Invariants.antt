use Rattle.std.proofs.Common.{take}
use Rattle.std.specs.List.{AllZip}
use Rattle.ce_sweep.specs.AnswersInside.{StandsAt}
use Rattle.ce_sweep.proofs.answers.keys_at.Given as goal

abbrev pub invariant-loop-place : goal.invariant-loop-place
invariant-loop-place l = AllZip (StandsAt l.keys) (take l.place-index l.places) l.chosen.items
