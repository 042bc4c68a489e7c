-- The loop of `store_row`: so many areas were stored.
use Rattle.tree_tests.specs.Rows.{IsRow}
use Rattle.tree_tests.proofs.search_tests.store_row.Given as goal

abbrev pub invariant-loop-place : goal.invariant-loop-place
invariant-loop-place l = IsRow l.tree l.place
