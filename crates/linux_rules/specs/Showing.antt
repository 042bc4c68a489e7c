-- /proc/PID/maps: fs/proc/task_mmu.c.
use Rattle.std.specs.Prelude.{◌*◌, ◌%◌, ◌^◌, Bool, not, ◌&&◌, if◌then◌else◌, nat_eq, nat_lt, nat_le, List, map}
use Rattle.mm_types.specs.declared.config.TheConstants.{PAGE_SIZE}
use Rattle.linux_rules.specs.declared.area.Vma.{Vma}
use Rattle.linux_rules.specs.declared.kernel.Kernel.{Kernel}
use Rattle.linux_rules.specs.Doing.{LinuxSpace}
use Rattle.linux_rules.specs.Steps.{MapsLine}

-- vma_is_initial_heap: up to 6.5 (fs/proc/task_mmu.c) what only touches the heap has its name too
abbrev pub is_heap : Kernel → LinuxSpace → Vma → Bool
is_heap kernel space vma = nat_eq vma.file 0 && (not (nat_eq kernel.config.heap 0) && (if kernel.rules.heap_is_strict
    then nat_lt (PAGE_SIZE * vma.lo) space.brk && nat_lt kernel.config.heap (PAGE_SIZE * vma.hi)
    else nat_le (PAGE_SIZE * vma.lo) space.brk && nat_le kernel.config.heap (PAGE_SIZE * vma.hi)))

-- show_map_vma: the line of an area
abbrev pub maps_line : Kernel → LinuxSpace → Vma → MapsLine
maps_line kernel space vma = record {
  lo = vma.lo;
  hi = vma.hi;
  access = vma.flags.access;
  shared = vma.flags.mayshare;
  offset = if nat_eq vma.file 0 then 0 else PAGE_SIZE * vma.pgoff % 2 ^ 64;
  file = vma.file;
  heap = is_heap kernel space vma;
}

-- the lines of an address space
unfoldable pub maps_lines : Kernel → LinuxSpace → List MapsLine
maps_lines kernel space = map (maps_line kernel space) space.areas
