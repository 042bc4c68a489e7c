-- For the law `rows_are_reached_once`.
use Rattle.maple_node.proofs.Trees.{rows-once}
use Rattle.maple_node.proofs.laws.rows_are_reached_once.Goals as goal

pub returns : goal.returns
returns c = rows-once
