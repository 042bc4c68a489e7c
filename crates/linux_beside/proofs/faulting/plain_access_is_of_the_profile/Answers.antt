-- For `plain_access_is_of_the_profile`: its goals.
use Rattle.linux_beside.proofs.PlainAccess.{has_verdict_of_profile, keeps_what_profile_knows}
use Rattle.linux_beside.proofs.faulting.plain_access_is_of_the_profile.Goals as goal

pub returns-clause-verdict : goal.returns-clause-verdict
returns-clause-verdict c = has_verdict_of_profile

pub returns-clause-kept : goal.returns-clause-kept
returns-clause-kept c = keeps_what_profile_knows
