-- For the law `entries_cover_pages`.
use Rattle.maple_node.proofs.Trees.{limit_above, entries-ascend, entries-end, entry_there}
use Rattle.maple_node.proofs.laws.entries_cover_pages.Goals as goal

pub returns-clause-some : goal.returns-clause-some
returns-clause-some c = limit_above

pub returns-clause-ascend : goal.returns-clause-ascend
returns-clause-ascend c = entries-ascend

pub returns-clause-limit : goal.returns-clause-limit
returns-clause-limit c = entries-end

pub returns-clause-covered : goal.returns-clause-covered
returns-clause-covered c = entry_there
