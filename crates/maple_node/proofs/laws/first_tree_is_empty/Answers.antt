-- For the law `first_tree_is_empty`.
use Rattle.maple_node.proofs.Trees.{first-rows, first-entries, first-pairs}
use Rattle.maple_node.proofs.laws.first_tree_is_empty.Goals as goal

pub returns-clause-rows : goal.returns-clause-rows
returns-clause-rows c = first-rows

pub returns-clause-entries : goal.returns-clause-entries
returns-clause-entries c = first-entries

pub returns-clause-pairs : goal.returns-clause-pairs
returns-clause-pairs c = first-pairs
