-- For `least_below_finds_the_least`: its goals.
use Rattle.area_rules.proofs.Searching.{least_found, least_not_found}
use Rattle.area_rules.proofs.placement_laws.least_below_finds_the_least.Goals as goal

pub returns-clause-found : goal.returns-clause-found
returns-clause-found c = least_found

pub returns-clause-none : goal.returns-clause-none
returns-clause-none c = least_not_found
