-- The proof of `begun`: what its loop keeps.
use Rattle.history.proofs.Walking.{BegunSoFar}
use Rattle.history.proofs.checking.begun.Given as goal

abbrev pub invariant-loop-entry : goal.invariant-loop-entry
invariant-loop-entry l = BegunSoFar l.config l.start l.entry-index l.space
