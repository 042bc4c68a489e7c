-- For `children_of_equal_spaces_answer_alike`.
use Rattle.mm_fork.proofs.Alike.{same_history}
use Rattle.mm_fork.proofs.laws.children_of_equal_spaces_answer_alike.Goals as goal

pub returns : goal.returns
returns c = same_history
