-- Page faults: arch/x86/mm/fault.c, expand_downwards of mm/vma.c (mm/mmap.c up to 6.15), and what they leave in an area.
use Rattle.std.specs.Prelude.{ℕ, ◌+◌, ◌-◌, ◌*◌, ◌/◌, ◌^◌, Bool, true, false, not, ◌&&◌, ◌||◌, if◌then◌else◌, nat_eq, nat_lt, nat_le, length, slice_get, Option, Some, None, Result, Ok, Err}
use Rattle.std.specs.Option.{option_map_or}
use Rattle.mm_types.specs.declared.area.Access.{Access}
use Rattle.mm_types.specs.declared.area.Access.TheVariants.{Read, Write, Exec}
use Rattle.mm_types.specs.declared.config.TheConstants.{PAGE_SIZE}
use Rattle.linux_rules.specs.declared.area.Vma.{Vma}
use Rattle.linux_rules.specs.declared.errors.TheConstants.{ENOMEM}
use Rattle.linux_rules.specs.declared.kernel.Kernel.{Kernel}
use Rattle.linux_rules.specs.declared.kernel.Vsyscall.{Vsyscall}
use Rattle.linux_rules.specs.declared.kernel.Vsyscall.TheVariants.{Xonly, Emulate}
use Rattle.linux_rules.specs.declared.verdict.LinuxVerdict.{LinuxVerdict}
use Rattle.linux_rules.specs.declared.verdict.LinuxVerdict.TheVariants.{Served, MapErr, AccErr, PkuErr, BusErr, NotCanonical}
use Rattle.linux_rules.specs.Accounts.{lacks_memory}
use Rattle.linux_rules.specs.AnonVmas.{anon_vma_prepare}
use Rattle.linux_rules.specs.Areas.{find_vma, vma_before, replaced, pages_of}
use Rattle.linux_rules.specs.Doing.{LinuxSpace, Did, Doing, ◌>>=◌, ◌>>◌, done, refuse, refuse_if, areas_now, set_areas}
use Rattle.linux_rules.specs.Merging.{from_page}
use Rattle.linux_rules.specs.Searching.{GUARD, HUGE, lowest_for_hints}

-- vma_is_accessible: some access is allowed
abbrev pub is_accessible : Vma → Bool
is_accessible vma = vma.flags.access.read || (vma.flags.access.write || vma.flags.access.exec)

-- expand_downwards, stack_guard_gap: whether accessible memory that isn't stack-like ends fewer than 256 pages below the page
abbrev pub is_guarded : ℕ → Option Vma → Bool
is_guarded page below = option_map_or (λ below. not below.flags.growsdown && (is_accessible below && nat_lt (page - below.hi) GUARD)) below false

-- expand_downwards, acct_stack_growth: whether an area may not grow so far: past its page offset, the stack limit, or memory
abbrev pub grows_too_far : Kernel → Vma → ℕ → Bool
grows_too_far kernel vma page = nat_lt vma.pgoff (vma.lo - page) || (nat_lt kernel.machine.stack (PAGE_SIZE * (vma.hi - page)) || lacks_memory kernel (vma.lo - page))

-- expand_downwards: a stack-like area takes all pages down to this one, or fails. It counts as written once the area below was tested.
unfoldable pub expand_downwards : Kernel → Vma → ℕ → Doing Vma
expand_downwards kernel vma page = do
  areas ← areas_now
  refuse_if (nat_lt page (lowest_for_hints kernel) || is_guarded page (vma_before areas vma.lo)) ENOMEM
  written ← anon_vma_prepare vma
  refuse_if (grows_too_far kernel written page) ENOMEM
  areas ← areas_now
  set_areas (replaced written (from_page written page) areas)
  done (from_page written page)

-- i_size_read: the pages of a file of the trace, or of a shared anonymous object
unfoldable pub object_pages : Kernel → LinuxSpace → ℕ → ℕ
object_pages kernel space file = if nat_le file (length kernel.config.files)
    then option_map_or (λ row. pages_of row.size) (slice_get kernel.config.files (file - 1)) 0
    else option_map_or (λ pages. pages) (slice_get space.objects (file - 1 - length kernel.config.files)) 0

-- thp_vma_allowable_order: whether the fault takes 2 MiB of anonymous memory, where huge pages are always taken
abbrev pub is_huge_fault : Kernel → Vma → ℕ → Bool
is_huge_fault kernel vma page = let begin = page / HUGE * HUGE in
    kernel.machine.huge_always && (nat_eq vma.file 0 && (not vma.flags.nohugepage && (nat_le vma.lo begin && nat_le (begin + HUGE) vma.hi)))

-- FAULT_FLAG_WRITE
abbrev pub is_write : Access → Bool
is_write Write = true
is_write _ = false

-- FAULT_FLAG_INSTRUCTION
abbrev pub is_exec : Access → Bool
is_exec Exec = true
is_exec _ = false

-- access_error: a write needs its right, and any access needs some right
abbrev pub access_error : Vma → Access → Bool
access_error vma access = (is_write access && not vma.flags.access.write) || not (is_accessible vma)

-- handle_mm_fault, what it answers: past the end of the file, served, or no right to execute, which the page tables show
unfoldable pub fault_answer : Kernel → Vma → ℕ → Access → LinuxSpace → LinuxVerdict
fault_answer kernel vma page access space = let index = if nat_eq vma.file 0 then 0 else vma.pgoff + (page - vma.lo) in
    if not (nat_eq vma.file 0) && nat_le (object_pages kernel space vma.file) index then BusErr
    else (if is_exec access && not vma.flags.access.exec then AccErr else Served vma index)

-- do_user_addr_fault, for the area that has the page: the key denies all but execution; then access_error; then handle_mm_fault, where a
-- write to a private area leaves an anon_vma, past the end of a file too
unfoldable pub area_verdict : Kernel → Vma → ℕ → Access → Doing LinuxVerdict
area_verdict kernel vma page access = if vma.flags.pkey && not (is_exec access) then done PkuErr
    else (if access_error vma access then done AccErr
    else (do
      after ← if (is_write access && not vma.flags.shared) || is_huge_fault kernel vma page then anon_vma_prepare vma else done vma
      (λ space. done (fault_answer kernel after page access space) space)))

-- lock_mm_and_find_vma: the area that has the page, or one above that grows
unfoldable pub area_for_fault : Kernel → ℕ → Option Vma → Doing Vma
area_for_fault kernel page None = refuse ENOMEM
area_for_fault kernel page (Some vma) = if nat_le vma.lo page then done vma else do
  refuse_if (not vma.flags.growsdown) ENOMEM
  expand_downwards kernel vma page

-- bad_area: without an area, SEGV_MAPERR; what was changed before stays
abbrev pub or_bad_area : LinuxSpace → Result LinuxVerdict ℕ → Did LinuxVerdict
or_bad_area space (Ok verdict) = done verdict space
or_bad_area space (Err error) = done MapErr space

-- do_user_addr_fault
unfoldable pub do_user_addr_fault : Kernel → ℕ → Access → Doing LinuxVerdict
do_user_addr_fault kernel page access = do
  areas ← areas_now
  vma ← area_for_fault kernel page (find_vma areas page)
  area_verdict kernel vma page access

-- VSYSCALL_ADDR, as a page
abbrev pub VSYSCALL : ℕ
VSYSCALL = 0xffffffffff600000 / PAGE_SIZE

-- gate_vma: what is shown at the address of [vsyscall]
abbrev pub gate_vma : (read : Bool) → Vma
gate_vma read = record {
  lo = VSYSCALL;
  hi = VSYSCALL + 1;
  file = 0;
  pgoff = 0;
  anon = None;
  flags = record {
    access = record { read = read; write = false; exec = true };
    may = record { read = read; write = false; exec = true };
    shared = false;
    mayshare = false;
    growsdown = false;
    account = false;
    noreserve = false;
    nohugepage = false;
    pkey = false;
    sealed = false;
  };
}

-- emulate_vsyscall: an access to the page of [vsyscall]
abbrev pub vsyscall_verdict : Vsyscall → Access → LinuxVerdict
vsyscall_verdict Emulate Read = Served (gate_vma true) 0
vsyscall_verdict Emulate Exec = Served (gate_vma true) 0
vsyscall_verdict Xonly Exec = Served (gate_vma false) 0
vsyscall_verdict _ _ = MapErr

-- __is_canonical_address fails: the page lies between the lower and the upper half of 48 bits
abbrev pub is_not_canonical : ℕ → Bool
is_not_canonical page = nat_le (2 ^ 35) page && nat_lt page (2 ^ 52 - 2 ^ 35)

-- exc_page_fault: an access to a page. An address that isn't canonical makes no page fault, but exc_general_protection.
unfoldable pub fault : Kernel → ℕ → Access → Doing LinuxVerdict
fault kernel page access space = if is_not_canonical page then done NotCanonical space
    else (if nat_eq page VSYSCALL then done (vsyscall_verdict kernel.machine.vsyscall access) space
    else (let did = do_user_addr_fault kernel page access space in or_bad_area did.space did.result))
