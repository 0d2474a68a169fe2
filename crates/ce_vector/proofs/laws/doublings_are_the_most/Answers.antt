use Rattle.ce_vector.proofs.Scaled.{scaled-fits, scaled-greatest}
use Rattle.ce_vector.proofs.laws.doublings_are_the_most.Goals as goal

pub returns-clause-fits : goal.returns-clause-fits
returns-clause-fits c = scaled-fits

pub returns-clause-greatest : goal.returns-clause-greatest
returns-clause-greatest c = scaled-greatest
