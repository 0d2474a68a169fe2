use Rattle.std.proofs.Common.{subst}
use Rattle.ce_rows.specs.Rows.{ScaledRows, EnclosesRows}
use Rattle.ce_solve.proofs.Beginnings.{run_has_true_start}
use Rattle.ce_solve.proofs.RunsEnclose.{known_ends_enclose, closing_ends}
use Rattle.ce_solve.proofs.laws.runs_enclose.Goals as goal

pub returns-clause-initial : goal.returns-clause-initial
returns-clause-initial c = λ rows rounds run are h.
    subst (λ (r : ScaledRows). EnclosesRows r run.initial.low run.initial.high) h.rows_are
    (run_has_true_start rows rounds run are h).encloses

pub returns-clause-closing : goal.returns-clause-closing
returns-clause-closing c = λ rows rounds turns run places low high are h r.
    subst (λ (s : ScaledRows). EnclosesRows s low high) h.rows_are
    (known_ends_enclose run turns places low high low high (run_has_true_start rows rounds run are h) r
    (closing_ends run turns places low high r))

pub returns-clause-certified : goal.returns-clause-certified
returns-clause-certified c = λ rows rounds turns run places low high from to are h r ends.
    subst (λ (s : ScaledRows). EnclosesRows s from to) h.rows_are
    (known_ends_enclose run turns places low high from to (run_has_true_start rows rounds run are h) r ends)
