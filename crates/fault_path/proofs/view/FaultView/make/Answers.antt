-- For `make`: the table of nodes has the size that goes with the configuration.
use Rattle.fault_path.proofs.view.FaultView.make.Goals as goal

pub passes_of-requires-clause-walkers : goal.passes_of-requires-clause-walkers
passes_of-requires-clause-walkers c =
    rw (c.rows_for-rows.ensures, c.slots_for-slots.ensures) at c.in_ok-nodes.ensures.fresh
