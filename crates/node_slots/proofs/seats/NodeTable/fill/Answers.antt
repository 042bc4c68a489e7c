-- For `fill`: the writer is still of this table.
use Rattle.node_slots.proofs.seats.NodeTable.fill.Goals as goal

pub returns-clause-table : goal.returns-clause-table
returns-clause-table c = c.fill.ensures.table c.args.self.now c.requires.table
