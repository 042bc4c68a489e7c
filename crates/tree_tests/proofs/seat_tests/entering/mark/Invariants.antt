-- For `mark`: what the writer knows stays, but for its tries.
use Rattle.vma_lock.specs.Seats.{WritesVmaTable, lock_sight}
use Rattle.tree_tests.specs.Small.{IsMarking}
use Rattle.tree_tests.proofs.seat_tests.entering.mark.Given as goal

abbrev pub invariant-loop : goal.invariant-loop
invariant-loop g l = record { table : WritesVmaTable l.writer l.fn.table; trying : IsMarking (lock_sight l.fn.writer) (lock_sight l.writer) }
