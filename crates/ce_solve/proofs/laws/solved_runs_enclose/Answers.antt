use Rattle.ce_solve.proofs.Enclosing.{encloses, inside, readings_enclose, readings_inside}
use Rattle.ce_solve.proofs.laws.solved_runs_enclose.Goals as goal

pub returns-clause-encloses : goal.returns-clause-encloses
returns-clause-encloses c = λ rows rounds turns workers closing are h.
    encloses rows rounds turns workers closing h are

pub returns-clause-inside : goal.returns-clause-inside
returns-clause-inside c = λ rows rounds turns workers ranks initial closing are numbering bounds h.
    inside rows rounds turns workers closing h ranks initial are numbering bounds

pub returns-clause-readings : goal.returns-clause-readings
returns-clause-readings c = λ rows rounds turns workers closing are h.
    readings_enclose rows rounds turns workers closing h are

pub returns-clause-readings_inside : goal.returns-clause-readings_inside
returns-clause-readings_inside c = λ rows rounds turns workers ranks initial closing are numbering bounds h.
    readings_inside rows rounds turns workers closing h ranks initial are numbering bounds
