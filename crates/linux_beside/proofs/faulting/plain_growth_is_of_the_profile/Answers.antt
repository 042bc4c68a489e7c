-- For `plain_growth_is_of_the_profile`: its goals.
use Rattle.linux_beside.proofs.GrowthLemmas.{grows_as_profile, growth_has_verdict}
use Rattle.linux_beside.proofs.faulting.plain_growth_is_of_the_profile.Goals as goal

pub returns-clause-verdict : goal.returns-clause-verdict
returns-clause-verdict c = growth_has_verdict

pub returns-clause-grown : goal.returns-clause-grown
returns-clause-grown c = grows_as_profile
