-- For `free_rows`: the rows are counted.
use Rattle.std.proofs.Common.{arith}
use Rattle.node_slots.proofs.Listing.{gone_few, counted_once}
use Rattle.node_slots.proofs.seats.NodeTable.free_rows.Goals as goal

pub overflow_cast-result : goal.overflow_cast-result
overflow_cast-result c =
    let writer = c.args.writer.now in
    let all = gone_few _ _ _ _ _ writer.rows in
    omega (arith, all, c.len.ensures, writer.writer_state.table.sized.fits.few_rows)

pub returns-clause-counted : goal.returns-clause-counted
returns-clause-counted c = rw c.args.writer.now.writer_state.kept.size_is (λ row within. counted_once _ row _ _ _ _ c.args.writer.now.rows within)
