-- The proof of `tells_by_caller`: what its loop keeps.
use Rattle.vma_drive.proofs.NamedCounts.{CountedTo}
use Rattle.vma_drive.proofs.naming.tells_by_caller.Given as goal

abbrev pub invariant-loop-line : goal.invariant-loop-line
invariant-loop-line l = CountedTo l.lines l.tells l.line-index
