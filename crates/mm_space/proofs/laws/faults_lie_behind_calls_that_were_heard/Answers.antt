-- For `faults_lie_behind_calls_that_were_heard`: what was told is as long as what the caller of the call had then seen.
use Rattle.mm_space.proofs.Ways.{behind_call}
use Rattle.mm_space.proofs.laws.faults_lie_behind_calls_that_were_heard.Goals as goal

pub returns : goal.returns
returns c = behind_call
