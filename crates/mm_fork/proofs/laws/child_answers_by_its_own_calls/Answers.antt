-- For `child_answers_by_its_own_calls`.
use Rattle.mm_fork.proofs.Spaces.{answers_own}
use Rattle.mm_fork.proofs.laws.child_answers_by_its_own_calls.Goals as goal

pub returns : goal.returns
returns c = answers_own
