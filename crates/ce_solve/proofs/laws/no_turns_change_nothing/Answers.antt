use Rattle.ce_solve.proofs.NoTurnsClosing.{still_closing}
use Rattle.ce_solve.proofs.NoTurns.{low_stays, high_stays, low_vector_stays, high_vector_stays}
use Rattle.ce_solve.proofs.laws.no_turns_change_nothing.Goals as goal

pub returns-clause-low : goal.returns-clause-low
returns-clause-low c = λ run places low high r. low_stays run low high places r

pub returns-clause-high : goal.returns-clause-high
returns-clause-high c = λ run places low high r. high_stays run low high places r

pub returns-clause-low_vector : goal.returns-clause-low_vector
returns-clause-low_vector c =
    λ run places low high beginning vector r k. low_vector_stays run low high places r beginning vector k

pub returns-clause-high_vector : goal.returns-clause-high_vector
returns-clause-high_vector c =
    λ run places low high beginning vector r k. high_vector_stays run low high places r beginning vector k

pub returns-clause-certificate : goal.returns-clause-certificate
returns-clause-certificate c = still_closing
