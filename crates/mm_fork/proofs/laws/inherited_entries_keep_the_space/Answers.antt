-- For `inherited_entries_keep_the_space`.
use Rattle.mm_fork.proofs.Spaces.{inherited_space}
use Rattle.mm_fork.proofs.laws.inherited_entries_keep_the_space.Goals as goal

pub returns : goal.returns
returns c = inherited_space
