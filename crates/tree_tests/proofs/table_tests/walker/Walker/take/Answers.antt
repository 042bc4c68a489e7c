-- For `Walker::take`: the reader that is taken, and those that are left, are beside the writer.
use Rattle.std.proofs.Common.{◌∙◌}
use Rattle.tree_tests.proofs.Seated.{beside_fewer}
use Rattle.tree_tests.proofs.table_tests.walker.Walker.take.Goals as goal

pub returns-in_err-table : goal.returns-in_err-table
returns-in_err-table c = (beside_fewer _ _ _ c.args.writer.now c.in-Some.ensures.items c.requires).0

pub returns : goal.returns
returns c = (beside_fewer _ _ _ c.args.writer.now c.in-Some.ensures.items c.requires).0

pub invariant_of-result : goal.invariant_of-result
invariant_of-result c =
    let beside = (beside_fewer _ _ _ c.args.writer.now c.in-Some.ensures.items c.requires).1 in
    let writes = c.in_ok-table.ensures in
    record { kept = (record { same = beside.same ∙ writes.same; size_is = beside.size_is ∙ writes.size_is }, beside.closed) }
