-- For `lists_stay_in_order`: its goals.
use Rattle.linux_beside.proofs.FaultOrder.{child_order}
use Rattle.linux_beside.proofs.OperationOrder.{operation_order}
use Rattle.linux_beside.proofs.ordering.lists_stay_in_order.Goals as goal

pub returns-clause-operations : goal.returns-clause-operations
returns-clause-operations c = operation_order

pub returns-clause-child : goal.returns-clause-child
returns-clause-child c = child_order
