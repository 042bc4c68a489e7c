-- For `read`: the reader stays open, and its snapshot has the row.
use Rattle.tree_tests.specs.Leaves.{IsInside}
use Rattle.tree_tests.proofs.table_tests.walker.read.Given as goal

abbrev pub invariant-loop-place : goal.invariant-loop-place
invariant-loop-place l = IsInside l.seat l.fn.table l.fn.row.0
