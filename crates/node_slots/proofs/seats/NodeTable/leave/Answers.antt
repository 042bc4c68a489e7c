-- For `leave`: the writer is still of this table.
use Rattle.node_slots.proofs.seats.NodeTable.leave.Goals as goal

pub returns-clause-table : goal.returns-clause-table
returns-clause-table c = c.leave.ensures.table c.args.self.now c.requires.table
