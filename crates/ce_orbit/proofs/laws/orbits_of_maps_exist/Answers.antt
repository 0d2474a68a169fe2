use Rattle.ce_orbit.proofs.Exists.{repeats_or_not, repeats_within}
use Rattle.ce_orbit.proofs.laws.orbits_of_maps_exist.Goals as goal

pub returns-clause-either : goal.returns-clause-either
returns-clause-either c = repeats_or_not

pub returns-clause-bounded : goal.returns-clause-bounded
returns-clause-bounded c = repeats_within
