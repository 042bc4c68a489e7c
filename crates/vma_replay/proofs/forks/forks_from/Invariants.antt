-- The proof of `forks_from`: the forks of the items so far were found.
use Rattle.vma_replay.specs.Forks.{fork_of}
use Rattle.output.proofs.Telling.{Told}
use Rattle.vma_replay.proofs.forks.forks_from.Given as goal

abbrev pub invariant-loop-item : goal.invariant-loop-item
invariant-loop-item l = Told fork_of l.fn.lines l.fn.items l.item-index l.answered l.forks.items
