-- Each operation leaves a list in order.
use Rattle.std.specs.Prelude.{ℕ}
use Rattle.mm_types.specs.declared.call.MmapArgs.{MmapArgs}
use Rattle.linux_rules.specs.declared.verdict.LinuxVerdict.{LinuxVerdict}
use Rattle.linux_rules.specs.Doing.{LinuxSpace, Doing, done}
use Rattle.linux_rules.specs.Brk.{brk}
use Rattle.linux_rules.specs.Faults.{fault}
use Rattle.linux_rules.specs.Forks.{fork}
use Rattle.linux_rules.specs.Mmap.{mmap}
use Rattle.linux_rules.specs.Mprotect.{mprotect}
use Rattle.linux_rules.specs.Mremap.{mremap}
use Rattle.linux_rules.specs.Mseal.{mseal}
use Rattle.linux_rules.specs.Munmap.{munmap}
use Rattle.linux_rules.specs.Recorded.{verdict_shown, returned, returned_zero, access_answer}
use Rattle.linux_rules.specs.Steps.{Returned, Map, Unmap, Protect, Remap, Break, Seal, Touch, Fork}
use Rattle.linux_beside.specs.InOrder.{AreInOrder}
use Rattle.linux_beside.specs.Ordering.{OperationsKeepOrder}
use Rattle.linux_beside.proofs.MunmapLemmas.{keeps_order}
use Rattle.linux_beside.proofs.ModifyLemmas.{mprotect_order, mseal_order}
use Rattle.linux_beside.proofs.FaultOrder.{access_order, fork_order}
use Rattle.linux_beside.proofs.MapOrder.{brk_order, mmap_order}
use Rattle.linux_beside.proofs.RemapOrder.{mremap_order}
use Rattle.linux_beside.proofs.Orderly.{went_on}

-- what a call returns changes nothing more
then_returned : (call : Doing ℕ) (space : LinuxSpace) → AreInOrder (call space).space.areas → AreInOrder (returned call space).space.areas
then_returned call space order = went_on (call space).space (call space).result (λ address. done (Returned address)) order (λ address is. order)

then_zero : (call : Doing Unit) (space : LinuxSpace) → AreInOrder (call space).space.areas → AreInOrder (returned_zero call space).space.areas
then_zero call space order = went_on (call space).space (call space).result (λ value. done (Returned 0)) order (λ value is. order)

then_shown : (call : Doing LinuxVerdict) (space : LinuxSpace) → AreInOrder (call space).space.areas → AreInOrder (access_answer call space).space.areas
then_shown call space order = went_on (call space).space (call space).result (λ verdict. done (verdict_shown verdict)) order (λ verdict is. order)

pub operation_order : OperationsKeepOrder
operation_order kernel space (Map addr len prot flags fd offset) small order =
    let args : MmapArgs = record { addr = addr; len = len; prot = prot; flags = flags; fd = fd; offset = offset } in
    then_returned (mmap kernel args) space (mmap_order kernel space args order)
operation_order kernel space (Unmap addr len) small order = then_zero (munmap kernel addr len) space (keeps_order kernel space addr len order)
operation_order kernel space (Protect addr len prot) small order = then_zero (mprotect kernel addr len prot) space (mprotect_order kernel space addr len prot order)
operation_order kernel space (Remap addr old_len new_len flags new_addr) small order =
    then_returned (mremap kernel addr old_len new_len flags new_addr) space (mremap_order kernel space addr old_len new_len flags new_addr small order)
operation_order kernel space (Break address) small order = then_returned (brk kernel address) space (brk_order kernel space address small order)
operation_order kernel space (Seal addr len flags) small order = then_zero (mseal kernel addr len flags) space (mseal_order kernel space addr len flags order)
operation_order kernel space (Touch page access) small order = then_shown (fault kernel page access) space (access_order kernel space page access order)
operation_order kernel space (Fork number) small order = then_zero (fork kernel) space (fork_order kernel space order)
