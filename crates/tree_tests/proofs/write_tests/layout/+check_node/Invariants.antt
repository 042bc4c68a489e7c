-- For `check_node`: it goes down a level each time.
use Rattle.tree_tests.proofs.write_tests.layout.+check_node.Given as goal

abbrev pub decreases-check_node : goal.decreases-check_node
decreases-check_node g l = l.node.height
