-- The proof of `all_lines_are_the_parents_where_none_forks`: its goal.
use Rattle.history.proofs.OneSpace.{all_of_parent}
use Rattle.vma_drive.proofs.laws.all_lines_are_the_parents_where_none_forks.Goals as goal

pub returns : goal.returns
returns c = all_of_parent
