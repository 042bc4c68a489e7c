-- For `take_row`: the writer is still of this table.
use Rattle.node_slots.proofs.seats.NodeTable.take_row.Goals as goal

pub returns-clause-table : goal.returns-clause-table
returns-clause-table c = c.take_last.ensures.table c.args.self.now c.requires.table
