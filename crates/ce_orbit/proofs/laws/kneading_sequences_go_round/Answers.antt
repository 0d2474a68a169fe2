use Rattle.ce_orbit.proofs.Keys.{first_symbols, symbols_go_round, same_for_ever}
use Rattle.ce_orbit.proofs.laws.kneading_sequences_go_round.Goals as goal

pub returns-clause-begins : goal.returns-clause-begins
returns-clause-begins c = first_symbols

pub returns-clause-repeats : goal.returns-clause-repeats
returns-clause-repeats c = symbols_go_round

pub returns-clause-determined : goal.returns-clause-determined
returns-clause-determined c = λ o r k left right same. same_for_ever o r left right same k
