-- For the law `root_stands_once`.
use Rattle.maple_node.proofs.Trees.{root-once, root-named, root-shown}
use Rattle.maple_node.proofs.laws.root_stands_once.Goals as goal

pub returns-clause-once : goal.returns-clause-once
returns-clause-once c = root-once

pub returns-clause-named : goal.returns-clause-named
returns-clause-named c = root-named

pub returns-clause-shown : goal.returns-clause-shown
returns-clause-shown c = root-shown
