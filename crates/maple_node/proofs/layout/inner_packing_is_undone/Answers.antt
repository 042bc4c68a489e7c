-- For the law `inner_packing_is_undone`.
use Rattle.std.proofs.Common.{map, false}
use Rattle.maple_node.specs.Words.{child_item}
use Rattle.maple_node.proofs.Places.{items_of_words}
use Rattle.maple_node.proofs.Children.{children-plain, inner_read_back, inner_shown, inner_written_back}
use Rattle.maple_node.proofs.layout.inner_packing_is_undone.Goals as goal

pub returns-clause-read_back : goal.returns-clause-read_back
returns-clause-read_back c = inner_read_back

pub returns-clause-items : goal.returns-clause-items
returns-clause-items c children fits = items_of_words false 0 (map child_item children) fits.ascends (children-plain children)

pub returns-clause-shown : goal.returns-clause-shown
returns-clause-shown c = inner_shown

pub returns-clause-written_back : goal.returns-clause-written_back
returns-clause-written_back c = inner_written_back
