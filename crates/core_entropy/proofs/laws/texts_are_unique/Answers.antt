use Rattle.core_entropy.proofs.OneText.{one_line, one_line_of_one, one_replay, one_show}
use Rattle.core_entropy.proofs.OneMap.{one_map}
use Rattle.core_entropy.proofs.OneAnswer.{one_comparison, one_merge, one_table}
use Rattle.core_entropy.proofs.ProbeTask.{one_probe}
use Rattle.core_entropy.proofs.laws.texts_are_unique.Goals as goal

pub returns-clause-angle : goal.returns-clause-angle
returns-clause-angle c = one_line

pub returns-clause-one_worker : goal.returns-clause-one_worker
returns-clause-one_worker c = one_line_of_one

pub returns-clause-one_worker_map : goal.returns-clause-one_worker_map
returns-clause-one_worker_map c = one_map

pub returns-clause-show : goal.returns-clause-show
returns-clause-show c = one_show

pub returns-clause-replay : goal.returns-clause-replay
returns-clause-replay c = one_replay

pub returns-clause-probe : goal.returns-clause-probe
returns-clause-probe c = one_probe

pub returns-clause-merge : goal.returns-clause-merge
returns-clause-merge c = one_merge

pub returns-clause-atlas : goal.returns-clause-atlas
returns-clause-atlas c = one_table c.tables_are_determined.ensures

pub returns-clause-compare : goal.returns-clause-compare
returns-clause-compare c = one_comparison
