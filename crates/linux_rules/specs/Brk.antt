-- brk(2): mm/mmap.c, mm/vma.c. It never fails: after an error it returns the break as it is.
use Rattle.std.specs.Prelude.{ℕ, ◌+◌, ◌-◌, ◌*◌, ◌%◌, ◌^◌, Bool, true, false, not, ◌&&◌, ◌||◌, if◌then◌else◌, nat_eq, nat_lt, nat_le, length, Option, Some, None, Ok}
use Rattle.std.specs.Option.{option_map_or}
use Rattle.mm_types.specs.declared.config.TheConstants.{PAGE_SIZE}
use Rattle.linux_rules.specs.declared.area.Vma.{Vma}
use Rattle.linux_rules.specs.declared.area.VmFlags.{VmFlags}
use Rattle.linux_rules.specs.declared.errors.TheConstants.{ENOMEM}
use Rattle.linux_rules.specs.declared.kernel.Kernel.{Kernel}
use Rattle.linux_rules.specs.Accounts.{lacks_memory}
use Rattle.linux_rules.specs.Areas.{find_vma, vma_before, pages_of}
use Rattle.linux_rules.specs.Doing.{Doing, ◌>>=◌, ◌>>◌, done, refuse_if, caught, areas_now}
use Rattle.linux_rules.specs.Merging.{merge_new_range}
use Rattle.linux_rules.specs.Mmap.{merged_or_new}
use Rattle.linux_rules.specs.Munmap.{gather_vmas, remove}
use Rattle.linux_rules.specs.Searching.{GUARD, start_gap, get_unmapped_area}

-- mm->brk: the break as it is
abbrev pub brk_now : Doing ℕ
brk_now space = record { space = space; result = Ok space.brk }

-- mm->brk: the break is at this address
abbrev pub set_brk : ℕ → Doing Unit
set_brk address space = record { space = record space { brk = address }; result = Ok tt }

-- do_brk_flags: the flags of the heap
abbrev pub heap_flags : VmFlags
heap_flags = record {
  access = record { read = true; write = true; exec = false };
  may = record { read = true; write = true; exec = true };
  shared = false;
  mayshare = false;
  growsdown = false;
  account = true;
  noreserve = false;
  nohugepage = false;
  pkey = false;
  sealed = false;
}

-- whether an area begins below a page
abbrev pub next_begins_below : ℕ → Option Vma → Bool
next_begins_below page vma = option_map_or (λ vma. nat_lt vma.lo page) vma false

-- brk, shrinking: the pages between are unmapped, unless none of them is mapped (do_vmi_align_munmap)
unfoldable pub lower_brk : Kernel → ℕ → ℕ → ℕ → Doing Unit
lower_brk kernel address old new = do
  areas ← areas_now
  refuse_if (not (next_begins_below old (find_vma areas new))) ENOMEM
  gone ← gather_vmas kernel new old
  remove gone
  set_brk address

-- brk, growing: whether the next area, with its guard, begins within the pages or one page above them
abbrev pub is_too_near : ℕ → Option Vma → Bool
is_too_near new above = option_map_or (λ above. nat_lt above.lo (new + 1 + GUARD) && nat_lt (start_gap above) (new + 1)) above false

-- vma_prev_limit: the previous area, if it ends above mm->start_brk
abbrev pub in_heap : Kernel → Option Vma → Option Vma
in_heap kernel None = None
in_heap kernel (Some below) = if nat_le (PAGE_SIZE * below.hi) kernel.config.heap then None else Some below

-- brk, growing, and do_brk_flags: the new pages join the area below, never one above. Their number wraps in 64 bits, as the new break does in the
-- last page of all addresses: then there is no place for so many.
unfoldable pub raise_brk : Kernel → ℕ → ℕ → ℕ → Doing Unit
raise_brk kernel address old new = do
  place ← get_unmapped_area kernel (PAGE_SIZE * old) ((new + 2 ^ 52 - old) % 2 ^ 52) true 0 false false
  areas ← areas_now
  refuse_if (is_too_near new (find_vma areas old)) ENOMEM
  refuse_if (nat_lt kernel.config.areas (length areas) || lacks_memory kernel (new - old)) ENOMEM
  let heap : Vma = record { lo = old; hi = new; flags = heap_flags; file = 0; pgoff = old; anon = None } in do
    vma ← merged_or_new heap areas (merge_new_range kernel.rules areas (in_heap kernel (vma_before areas old)) None heap None)
    set_brk address

-- brk: moves the break to an address, or fails
unfoldable pub move_brk : Kernel → ℕ → ℕ → Doing Unit
move_brk kernel address before = let old = pages_of before in let new = pages_of address in
    if nat_lt address kernel.config.heap then done tt
    else (if nat_eq old new then set_brk address
    else (if nat_le address before then lower_brk kernel address old new else raise_brk kernel address old new))

-- brk: returns the break after the call
unfoldable pub brk : Kernel → ℕ → Doing ℕ
brk kernel address = do
  before ← brk_now
  moved ← caught (move_brk kernel address before)
  brk_now
