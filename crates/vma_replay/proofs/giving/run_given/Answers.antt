-- The proof of `run_given`: where no line forks, the run is alone.
use Rattle.vma_replay.proofs.Alone.{none_fork}
use Rattle.vma_replay.proofs.giving.run_given.Goals as goal

pub alone_given-requires-clause-alone : goal.alone_given-requires-clause-alone
alone_given-requires-clause-alone g c sync outlives = none_fork c.args.trace.now _ _ c.items.ensures c.has_forks.ensures c.if-has_forks.false
