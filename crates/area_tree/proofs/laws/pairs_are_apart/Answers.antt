-- For `pairs_are_apart`: the pairs of entries stand in order.
use Rattle.area_tree.proofs.Pairs.{layout-pairs}
use Rattle.area_tree.proofs.laws.pairs_are_apart.Goals as goal

pub returns : goal.returns
returns c = layout-pairs
