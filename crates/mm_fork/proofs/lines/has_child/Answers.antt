-- The proof of `has_child`: a line forks the child where it is among the children.
use Rattle.mm_fork.proofs.Forked.{is_forked}
use Rattle.mm_fork.proofs.lines.has_child.Goals as goal

pub returns : goal.returns
returns c = is_forked _ c.args.trace.now.lines c.args.child c.fork_it.result c.items.ensures c.fork_it.ensures
