-- For the law `leaf_packing_is_undone`.
use Rattle.std.proofs.Common.{map, true}
use Rattle.maple_node.specs.Words.{entry_item}
use Rattle.maple_node.proofs.Places.{items_of_words}
use Rattle.maple_node.proofs.Entries.{entries-plain, leaf_read_back, leaf_shown, leaf_written_back}
use Rattle.maple_node.proofs.layout.leaf_packing_is_undone.Goals as goal

pub returns-clause-read_back : goal.returns-clause-read_back
returns-clause-read_back c = leaf_read_back

pub returns-clause-items : goal.returns-clause-items
returns-clause-items c entries fits = items_of_words true 0 (map entry_item entries) fits.ascends (entries-plain entries)

pub returns-clause-shown : goal.returns-clause-shown
returns-clause-shown c = leaf_shown

pub returns-clause-written_back : goal.returns-clause-written_back
returns-clause-written_back c = leaf_written_back
