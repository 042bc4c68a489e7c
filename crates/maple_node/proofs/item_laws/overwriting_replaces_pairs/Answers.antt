-- For the law `overwriting_replaces_pairs`.
use Rattle.maple_node.proofs.ItemEntries.{overwrite-pairs, overwrite-ascends, overwrite-ends, overwrite-words, overwrite-plain}
use Rattle.maple_node.proofs.item_laws.overwriting_replaces_pairs.Goals as goal

pub returns-clause-pairs : goal.returns-clause-pairs
returns-clause-pairs c = overwrite-pairs

pub returns-clause-ascend : goal.returns-clause-ascend
returns-clause-ascend c = overwrite-ascends

pub returns-clause-limit : goal.returns-clause-limit
returns-clause-limit c = overwrite-ends

pub returns-clause-words : goal.returns-clause-words
returns-clause-words c = overwrite-words

pub returns-clause-plain : goal.returns-clause-plain
returns-clause-plain c = overwrite-plain
