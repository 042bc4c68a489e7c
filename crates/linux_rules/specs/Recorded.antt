-- What a kernel was recorded to answer, and that the definitions answer it.
use Rattle.std.specs.Prelude.{ℕ, ◌≡◌, if◌then◌else◌, nat_eq, List, [], ◌∷◌, option_map}
use Rattle.linux_rules.specs.declared.kernel.Kernel.{Kernel}
use Rattle.linux_rules.specs.declared.verdict.LinuxVerdict.{LinuxVerdict}
use Rattle.linux_rules.specs.declared.verdict.LinuxVerdict.TheVariants.{Served, MapErr, AccErr, PkuErr, BusErr, NotCanonical}
use Rattle.linux_rules.specs.Doing.{LinuxSpace, Doing, ◌>>=◌, ◌>>◌, done}
use Rattle.linux_rules.specs.Brk.{brk}
use Rattle.linux_rules.specs.Faults.{fault}
use Rattle.linux_rules.specs.Forks.{child_space, fork}
use Rattle.linux_rules.specs.Mmap.{mmap}
use Rattle.linux_rules.specs.Mprotect.{mprotect}
use Rattle.linux_rules.specs.Mremap.{mremap}
use Rattle.linux_rules.specs.Mseal.{mseal}
use Rattle.linux_rules.specs.Munmap.{munmap}
use Rattle.linux_rules.specs.Showing.{maps_lines}
use Rattle.linux_rules.specs.Steps.{Operation, Map, Unmap, Protect, Remap, Break, Seal, Touch, Fork, Answer, Returned, Serves, Signal, Step}

-- a verdict, as the trace's answer shows it
abbrev pub verdict_shown : LinuxVerdict → Answer
verdict_shown (Served vma index) = Serves vma.lo vma.hi vma.flags.access vma.flags.mayshare index
verdict_shown MapErr = Signal MapErr
verdict_shown AccErr = Signal AccErr
verdict_shown PkuErr = Signal PkuErr
verdict_shown BusErr = Signal BusErr
verdict_shown NotCanonical = Signal NotCanonical

-- a call that returns an address
abbrev pub returned : Doing ℕ → Doing Answer
returned call = do
  address ← call
  done (Returned address)

-- a call that returns 0
abbrev pub returned_zero : Doing Unit → Doing Answer
returned_zero call = do
  call
  done (Returned 0)

-- an access
abbrev pub access_answer : Doing LinuxVerdict → Doing Answer
access_answer access = do
  verdict ← access
  done (verdict_shown verdict)

-- an operation in one address space; a fork returns 0
abbrev pub operation_made : Kernel → Operation → Doing Answer
operation_made kernel (Map addr len prot flags fd offset) =
    returned (mmap kernel (record { addr = addr; len = len; prot = prot; flags = flags; fd = fd; offset = offset }))
operation_made kernel (Unmap addr len) = returned_zero (munmap kernel addr len)
operation_made kernel (Protect addr len prot) = returned_zero (mprotect kernel addr len prot)
operation_made kernel (Remap addr old_len new_len flags new_addr) = returned (mremap kernel addr old_len new_len flags new_addr)
operation_made kernel (Break address) = returned (brk kernel address)
operation_made kernel (Seal addr len flags) = returned_zero (mseal kernel addr len flags)
operation_made kernel (Touch page access) = access_answer (fault kernel page access)
operation_made kernel (Fork number) = returned_zero (fork kernel)

-- the address spaces by number, with another one at a number
abbrev pub with_space : (ℕ → LinuxSpace) → ℕ → LinuxSpace → ℕ → LinuxSpace
with_space spaces number space other = if nat_eq other number then space else spaces other

-- the address spaces with a child, if the operation is a fork; after one that failed none is used
abbrev pub with_child : (ℕ → LinuxSpace) → LinuxSpace → Operation → ℕ → LinuxSpace
with_child spaces parent (Fork number) = with_space spaces number (child_space parent)
with_child spaces parent _ = spaces

-- the steps with the answers and lists that the definitions give
abbrev pub replayed : Kernel → (ℕ → LinuxSpace) → List Step → List Step
replayed kernel spaces [] = []
replayed kernel spaces (step ∷ steps) = let did = operation_made kernel step.operation (spaces step.place) in
    record step { answer = did.result; maps = option_map (λ read. maps_lines kernel did.space) step.maps }
    ∷ replayed kernel (with_child (with_space spaces step.place did.space) did.space step.operation) steps

-- an address space without an area
abbrev pub opening : Kernel → LinuxSpace
opening kernel = record { areas = []; anons = 0; objects = []; brk = kernel.config.heap }

-- The definitions answer each operation as it was recorded, with the list after it.
abbrev pub IsAsRecorded : Kernel → List Step → Type 0
IsAsRecorded kernel steps = replayed kernel (λ number. opening kernel) steps ≡ steps
