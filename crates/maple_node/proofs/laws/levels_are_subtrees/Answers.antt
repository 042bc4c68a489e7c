-- For the law `levels_are_subtrees`.
use Rattle.maple_node.proofs.Subtrees.{tower-subtree, entries-subtree, rows-subtree}
use Rattle.maple_node.proofs.laws.levels_are_subtrees.Goals as goal

pub returns-clause-tower : goal.returns-clause-tower
returns-clause-tower c = tower-subtree

pub returns-clause-entries : goal.returns-clause-entries
returns-clause-entries c = entries-subtree

pub returns-clause-rows : goal.returns-clause-rows
returns-clause-rows c = rows-subtree
