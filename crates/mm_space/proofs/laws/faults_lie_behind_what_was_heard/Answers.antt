-- For `faults_lie_behind_what_was_heard`: what the pass has seen at the end of the fault begins with what was told.
use Rattle.mm_space.proofs.Ways.{behind_told}
use Rattle.mm_space.proofs.laws.faults_lie_behind_what_was_heard.Goals as goal

pub returns : goal.returns
returns c = behind_told
