-- For `read`: the row is of the snapshot, which stays.
use Rattle.tree_tests.proofs.Seated.{shown_row, inside_word}
use Rattle.tree_tests.proofs.table_tests.walker.read.Goals as goal

pub word-requires-clause-table : goal.word-requires-clause-table
word-requires-clause-table c = c.loop-place.invariant.table_is

pub word-requires-clause-shown : goal.word-requires-clause-shown
word-requires-clause-shown c = shown_row _ _ c.loop-place.invariant.shows

pub loop-place-preserved : goal.loop-place-preserved
loop-place-preserved c = inside_word _ _ _ _ c.loop-place.invariant c.word.ensures.table c.word.ensures.view
