-- For the law `written_items_are_read`.
use Rattle.maple_node.proofs.Places.{items_of_words}
use Rattle.maple_node.proofs.Words.{items_read}
use Rattle.maple_node.proofs.item_laws.written_items_are_read.Goals as goal

pub returns-clause-read : goal.returns-clause-read
returns-clause-read c = items_read

pub returns-clause-ascending : goal.returns-clause-ascending
returns-clause-ascending c = items_of_words
