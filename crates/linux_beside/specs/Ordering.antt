-- Lists stay in order.
use Rattle.std.specs.Prelude.{◌<◌, ◌^◌}
use Rattle.linux_rules.specs.declared.kernel.Kernel.{Kernel}
use Rattle.linux_rules.specs.Doing.{LinuxSpace}
use Rattle.linux_rules.specs.Forks.{child_space}
use Rattle.linux_rules.specs.Recorded as linux
use Rattle.linux_rules.specs.Steps.{Operation}
use Rattle.linux_beside.specs.InOrder.{AreInOrder}

-- Each operation leaves a list in order, whatever it answers: also one that's refused halfway, an mseal that goes on from a stale address, and an
-- access by which an area grows. User memory ends below 2^64.
abbrev pub OperationsKeepOrder : Type 0
OperationsKeepOrder = (kernel : Kernel) (space : LinuxSpace) (operation : Operation) → kernel.config.limit < 2 ^ 64 → AreInOrder space.areas
    → AreInOrder (linux.operation_made kernel operation space).space.areas

-- a fork gives the child a list in order
abbrev pub ChildIsInOrder : Type 0
ChildIsInOrder = (space : LinuxSpace) → AreInOrder space.areas → AreInOrder (child_space space).areas
