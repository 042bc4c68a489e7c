-- For the law `nodes_are_read_by_place`.
use Rattle.maple_node.proofs.Reading.{leaf_places, inner_places}
use Rattle.maple_node.proofs.laws.nodes_are_read_by_place.Goals as goal

pub returns-clause-leaf : goal.returns-clause-leaf
returns-clause-leaf c = leaf_places

pub returns-clause-inner : goal.returns-clause-inner
returns-clause-inner c = inner_places
