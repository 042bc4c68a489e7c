-- For `Plan::count_after`: its goals.
use Rattle.std.proofs.Common.{arith}
use Rattle.split_merge.proofs.plan.Plan.count_after.Goals as goal

pub overflow_add-after : goal.overflow_add-after
overflow_add-after c = omega (arith, c.changes-changes.type_inv.1)
