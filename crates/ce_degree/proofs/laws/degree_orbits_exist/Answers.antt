use Rattle.ce_degree.proofs.SomeDegreeOrbit.{within_denominator, within_or_above}
use Rattle.ce_degree.proofs.laws.degree_orbits_exist.Goals as goal

pub returns-clause-exist : goal.returns-clause-exist
returns-clause-exist c = within_denominator

pub returns-clause-either : goal.returns-clause-either
returns-clause-either c = within_or_above
