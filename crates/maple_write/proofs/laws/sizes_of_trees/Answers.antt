-- For the law `sizes_of_trees`.
use Rattle.maple_write.proofs.Sizes.{tree_sizes, tall_trees}
use Rattle.maple_write.proofs.laws.sizes_of_trees.Goals as goal

pub returns-clause-rows : goal.returns-clause-rows
returns-clause-rows c = tree_sizes

pub returns-clause-height : goal.returns-clause-height
returns-clause-height c = tall_trees
