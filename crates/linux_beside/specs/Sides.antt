-- The profile beside Linux: an operation of a trace as the profile answers it, in the words in which Linux's answers are recorded.
use Rattle.std.specs.Prelude.{ℕ, ◌*◌, ◌≡◌, Bool, true, false, if◌then◌else◌, nat_eq, List, [], ◌∷◌, map, option_map, Result, Ok, Err}
use Rattle.mm_types.specs.declared.area.Access.{Access}
use Rattle.mm_types.specs.declared.area.Record.{Record}
use Rattle.mm_types.specs.declared.area.Verdict.{Verdict}
use Rattle.mm_types.specs.declared.area.Verdict.TheVariants as answers
use Rattle.mm_types.specs.declared.call.Call.TheVariants as call
use Rattle.mm_types.specs.declared.call.Errno.{Errno}
use Rattle.mm_types.specs.declared.call.Errno.TheVariants.{Eperm, Ebadf, Enomem, Eacces, Efault, Eexist, Einval, Eoverflow}
use Rattle.mm_types.specs.declared.call.Reply.{Reply}
use Rattle.mm_types.specs.declared.call.Reply.TheVariants.{Addr, Zero, Refused, Grown}
use Rattle.mm_types.specs.declared.config.Config.{Config}
use Rattle.mm_types.specs.declared.config.TheConstants.{PAGE_SIZE}
use Rattle.area_rules.specs.Growing.{grows, touch}
use Rattle.area_rules.specs.Steps as profile
use Rattle.area_rules.specs.Tables.{AddressSpace, Outcome}
use Rattle.area_rules.specs.Verdicts.{verdict}
use Rattle.linux_rules.specs.declared.errors.TheConstants.{EPERM, EBADF, ENOMEM, EACCES, EFAULT, EEXIST, EINVAL, EOVERFLOW}
use Rattle.linux_rules.specs.declared.kernel.Kernel.{Kernel}
use Rattle.linux_rules.specs.declared.kernel.Rules.{Rules}
use Rattle.linux_rules.specs.declared.kernel.Vsyscall.TheVariants.{Xonly}
use Rattle.linux_rules.specs.declared.verdict.LinuxVerdict.TheVariants.{MapErr, AccErr, BusErr}
use Rattle.linux_rules.specs.Steps.{MapsLine, Operation, Map, Unmap, Protect, Remap, Break, Seal, Touch, Fork, Answer, Returned, Serves, Signal, Step}

-- the number of an error
abbrev pub errno_number : Errno → ℕ
errno_number Eperm = EPERM
errno_number Ebadf = EBADF
errno_number Enomem = ENOMEM
errno_number Eacces = EACCES
errno_number Efault = EFAULT
errno_number Eexist = EEXIST
errno_number Einval = EINVAL
errno_number Eoverflow = EOVERFLOW

-- that an area serves an access
abbrev pub served_by : Record → ℕ → Answer
served_by area index = Serves area.span.lo area.span.hi area.attr.prot area.attr.shared index

-- a reply of the profile
abbrev pub reply_of : Reply → Result Answer ℕ
reply_of (Addr address) = Ok (Returned address)
reply_of Zero = Ok (Returned 0)
reply_of (Refused error) = Err (errno_number error)
reply_of (Grown area index) = Ok (served_by area index)

-- a verdict of the profile
abbrev pub verdict_answer : Verdict → Answer
verdict_answer (answers.Served area index) = served_by area index
verdict_answer answers.MapErr = Signal MapErr
verdict_answer answers.AccErr = Signal AccErr
verdict_answer answers.BusErr = Signal BusErr

-- an outcome as a space and an answer
pub record Answered : Type 0 where
  pub space : AddressSpace
  pub answer : Result Answer ℕ

-- a call of the profile
abbrev pub call_answer : Outcome → Answered
call_answer outcome = record { space = outcome.space; answer = reply_of outcome.reply }

-- an access, which may grow an area
abbrev pub accessed : Config → AddressSpace → ℕ → Access → Answered
accessed config space page access = if grows config space.areas page access then call_answer (touch config space page access)
    else record { space = space; answer = Ok (verdict_answer (verdict config space.areas page access)) }

-- an operation in one address space; a fork returns 0
abbrev pub operation_answer : Config → AddressSpace → Operation → Answered
operation_answer config space (Map addr len prot flags fd offset) = call_answer (profile.step config space
    (call.Mmap (record { addr = addr; len = len; prot = prot; flags = flags; fd = fd; offset = offset })))
operation_answer config space (Unmap addr len) = call_answer (profile.step config space (call.Munmap addr len))
operation_answer config space (Protect addr len prot) = call_answer (profile.step config space (call.Mprotect addr len prot))
operation_answer config space (Remap addr old_len new_len flags new_addr) = call_answer (profile.step config space (call.Mremap addr old_len new_len flags new_addr))
operation_answer config space (Break address) = call_answer (profile.step config space (call.Brk address))
operation_answer config space (Seal addr len flags) = call_answer (profile.step config space (call.Mseal addr len flags))
operation_answer config space (Touch page access) = accessed config space page access
operation_answer config space (Fork number) = record { space = space; answer = Ok (Returned 0) }

-- the line of an area
abbrev pub line_of_area : Record → MapsLine
line_of_area area = record {
  lo = area.span.lo;
  hi = area.span.hi;
  access = area.attr.prot;
  shared = area.attr.shared;
  offset = PAGE_SIZE * area.offset;
  file = area.object;
  heap = area.attr.heap;
}

-- the address spaces by number, with another one at a number
abbrev pub profile_with_space : (ℕ → AddressSpace) → ℕ → AddressSpace → ℕ → AddressSpace
profile_with_space spaces number space other = if nat_eq other number then space else spaces other

-- the address spaces with a child, if the operation is a fork
abbrev pub profile_with_child : (ℕ → AddressSpace) → AddressSpace → Operation → ℕ → AddressSpace
profile_with_child spaces parent (Fork number) = profile_with_space spaces number parent
profile_with_child spaces parent _ = spaces

-- the steps with the answers and lists that the profile gives
abbrev pub profile_replayed : Config → (ℕ → AddressSpace) → List Step → List Step
profile_replayed config spaces [] = []
profile_replayed config spaces (step ∷ steps) = let did = operation_answer config (spaces step.place) step.operation in
    record step { answer = did.answer; maps = option_map (λ read. map line_of_area did.space.areas) step.maps }
    ∷ profile_replayed config (profile_with_child (profile_with_space spaces step.place did.space) did.space step.operation) steps

-- The profile gives these answers and lists.
abbrev pub IsByProfile : Config → List Step → Type 0
IsByProfile config steps = profile_replayed config (λ number. profile.opening config) steps ≡ steps

-- a kernel of a version, on the machine on which the rows were recorded: 6,170,807 pages of memory, protection keys, and huge pages only where
-- a program asks for them. Its files lie on a disk or in memory.
abbrev pub on_the_machine : Rules → (on_disk : Bool) → Config → Kernel
on_the_machine rules on_disk config = record {
  rules = rules;
  config = config;
  machine = record {
    lowest_built = 16;
    memory = 6170807;
    stack = 8388608;
    has_keys = true;
    huge_always = false;
    files_are_huge = on_disk;
    vsyscall = Xonly;
  };
}
