-- For `open`: the readers of a new table are beside its writer.
use Rattle.tree_tests.proofs.Seated.{beside_first}
use Rattle.tree_tests.proofs.table_tests.open.Goals as goal

pub take-requires : goal.take-requires
take-requires c = beside_first _ _ _ _ c.in_ok-table.ensures.writer.0 c.in_ok-table.ensures.fresh
