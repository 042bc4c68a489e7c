-- For `growing_keeps_the_list_canonical`.
use Rattle.area_rules.proofs.Growing.{grown_canonical, grown_length}
use Rattle.area_rules.proofs.growth_laws.growing_keeps_the_list_canonical.Goals as goal

pub returns-clause-canonical : goal.returns-clause-canonical
returns-clause-canonical c = grown_canonical

pub returns-clause-count : goal.returns-clause-count
returns-clause-count c = grown_length
