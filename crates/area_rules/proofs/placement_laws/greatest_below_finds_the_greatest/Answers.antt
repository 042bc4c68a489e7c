-- For `greatest_below_finds_the_greatest`: its goals.
use Rattle.area_rules.proofs.Searching.{greatest_found, greatest_not_found}
use Rattle.area_rules.proofs.placement_laws.greatest_below_finds_the_greatest.Goals as goal

pub returns-clause-found : goal.returns-clause-found
returns-clause-found c = greatest_found

pub returns-clause-none : goal.returns-clause-none
returns-clause-none c = greatest_not_found
