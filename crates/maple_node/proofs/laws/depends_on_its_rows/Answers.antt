-- For the law `depends_on_its_rows`.
use Rattle.std.proofs.Common.{[], ◌∷◌}
use Rattle.maple_node.proofs.Frames.{rows_of-agree, level_of-agree}
use Rattle.maple_node.proofs.Trees.{layout-same, pairs-same, tree-same}
use Rattle.maple_node.proofs.laws.depends_on_its_rows.Goals as goal

pub returns-clause-rows : goal.returns-clause-rows
returns-clause-rows c at other tree = rows_of-agree at other 0 tree.height (tree.top ∷ [])

pub returns-clause-entries : goal.returns-clause-entries
returns-clause-entries c at other tree = level_of-agree at other 0 tree.height (tree.top ∷ [])

pub returns-clause-pairs : goal.returns-clause-pairs
returns-clause-pairs c = pairs-same

pub returns-clause-layout : goal.returns-clause-layout
returns-clause-layout c = layout-same

pub returns-clause-tree : goal.returns-clause-tree
returns-clause-tree c = tree-same
