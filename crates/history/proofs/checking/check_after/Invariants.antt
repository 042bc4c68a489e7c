-- The proof of `check_after`: what its loop keeps.
use Rattle.history.specs.Internal.Walks.{IsHistoryWalked}
use Rattle.history.proofs.checking.check_after.Given as goal

abbrev pub invariant-loop-place : goal.invariant-loop-place
invariant-loop-place l = IsHistoryWalked l.case l.place l.walk
