-- Promised memory, with vm.overcommit_memory 0: mm/util.c.
use Rattle.std.specs.Prelude.{ℕ, Bool, nat_lt}
use Rattle.linux_rules.specs.declared.kernel.Kernel.{Kernel}

-- __vm_enough_memory, OVERCOMMIT_GUESS: one charge may not be more than all memory and swap space
abbrev pub lacks_memory : Kernel → ℕ → Bool
lacks_memory kernel pages = nat_lt kernel.machine.memory pages
