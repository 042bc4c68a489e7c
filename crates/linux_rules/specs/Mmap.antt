-- mmap(2): do_mmap of mm/mmap.c, and mmap_region of mm/vma.c (mm/mmap.c up to 6.11).
use Rattle.std.specs.Prelude.{ℕ, ◌+◌, ◌-◌, ◌*◌, ◌/◌, ◌^◌, max, Bool, true, false, not, ◌&&◌, ◌||◌, if◌then◌else◌, nat_eq, nat_lt, List, [], ◌∷◌, ◌++◌, length, filter, map, sum, find, position, Option, Some, None, is_none, is_some, Ok}
use Rattle.std.specs.Option.{option_map_or}
use Rattle.std.specs.Ordering.{int_eq}
use Rattle.mm_types.specs.declared.call.MmapArgs.{MmapArgs}
use Rattle.mm_types.specs.declared.config.TheConstants.{PAGE_SIZE}
use Rattle.mm_types.specs.declared.files.FileRow.{FileRow}
use Rattle.mm_types.specs.declared.flags.TheConstants.{MAP_SHARED, MAP_PRIVATE, MAP_FIXED, MAP_ANONYMOUS, MAP_GROWSDOWN, MAP_NORESERVE, MAP_POPULATE, MAP_STACK, MAP_FIXED_NOREPLACE}
use Rattle.mm_types.specs.Flags.{has_flag}
use Rattle.linux_rules.specs.declared.area.Vma.{Vma}
use Rattle.linux_rules.specs.declared.area.VmFlags.{VmFlags}
use Rattle.linux_rules.specs.declared.errors.TheConstants.{EBADF, ENOMEM, EACCES, EEXIST, EINVAL, EOVERFLOW, EOPNOTSUPP}
use Rattle.linux_rules.specs.declared.kernel.Kernel.{Kernel}
use Rattle.linux_rules.specs.Accounts.{lacks_memory}
use Rattle.linux_rules.specs.AnonVmas.{anon_vma_prepare}
use Rattle.linux_rules.specs.Areas.{vma_before, vma_from, with_vma, is_aligned, pages_of}
use Rattle.linux_rules.specs.Doing.{Doing, ◌>>=◌, ◌>>◌, done, refuse_if, areas_now, set_areas}
use Rattle.linux_rules.specs.Merging.{Merged, merge_new_range, merges_left, merges_right}
use Rattle.linux_rules.specs.Munmap.{gather_vmas, remove}
use Rattle.linux_rules.specs.Mprotect.{key_of}
use Rattle.linux_rules.specs.Searching.{lowest_for_hints, get_unmapped_area, is_free}

-- a flag of the call
abbrev pub asks : MmapArgs → ℕ → Bool
asks args flag = has_flag args.flags flag

-- ksys_mmap_pgoff, fget: the file of the call; anonymous memory has none
unfoldable pub file_of_call : Kernel → MmapArgs → Option FileRow
file_of_call kernel args = if asks args MAP_ANONYMOUS then None else find (λ file. int_eq file.fd args.fd) kernel.config.files

-- its number among the files of the trace, from 1 on
unfoldable pub file_number : Kernel → MmapArgs → ℕ
file_number kernel args = if asks args MAP_ANONYMOUS then 0
    else option_map_or (λ place. place + 1) (position (λ file. int_eq file.fd args.fd) kernel.config.files) 0

-- do_mmap: the address is the place with MAP_FIXED, and so with MAP_FIXED_NOREPLACE
abbrev pub is_fixed : MmapArgs → Bool
is_fixed args = asks args MAP_FIXED || asks args MAP_FIXED_NOREPLACE

-- round_hint_to_min: a hint is rounded down to its page, and raised to the lowest for hints
unfoldable pub address_of : Kernel → MmapArgs → ℕ
address_of kernel args = if is_fixed args then args.addr
    else (let page = args.addr / PAGE_SIZE in if nat_eq page 0 then 0 else PAGE_SIZE * max page (lowest_for_hints kernel))

-- do_mmap: the flags of any mapping. MAP_STACK is one of them since 6.7 (include/linux/mman.h).
unfoldable pub common_flags : Kernel → MmapArgs → VmFlags
common_flags kernel args = record {
  access = args.prot;
  may = record { read = true; write = true; exec = true };
  shared = false;
  mayshare = false;
  growsdown = asks args MAP_GROWSDOWN;
  account = false;
  noreserve = asks args MAP_NORESERVE;
  nohugepage = asks args MAP_STACK && kernel.rules.aligns_anonymous;
  pkey = key_of kernel args.prot;
  sealed = false;
}

-- file_mmap_ok: whether the range of the file passes 2^63 - 1 bytes
abbrev pub overflows : MmapArgs → Bool
overflows args = let bytes = PAGE_SIZE * pages_of args.len in nat_lt (2 ^ 63 - 1) (bytes + PAGE_SIZE * (args.offset / PAGE_SIZE))

-- do_mmap, the part for files: its tests, and the flags of the mapping
unfoldable pub file_flags : MmapArgs → FileRow → VmFlags → Doing VmFlags
file_flags args file flags = do
  refuse_if (overflows args) EOVERFLOW
  refuse_if (not (asks args MAP_SHARED || asks args MAP_PRIVATE)) EINVAL
  refuse_if (asks args MAP_SHARED && (asks args MAP_PRIVATE && asks args MAP_FIXED_NOREPLACE)) EOPNOTSUPP
  refuse_if (asks args MAP_SHARED && (args.prot.write && not file.write)) EACCES
  refuse_if (not file.read) EACCES
  refuse_if flags.growsdown EINVAL
  done (if not (asks args MAP_SHARED) then flags else record flags {
    shared = file.write;
    mayshare = true;
    may = record { read = true; write = file.write; exec = true };
  })

-- do_mmap, the part for anonymous memory
unfoldable pub anonymous_flags : MmapArgs → VmFlags → Doing VmFlags
anonymous_flags args flags = if asks args MAP_SHARED
    then (do
      refuse_if (asks args MAP_PRIVATE) EINVAL
      refuse_if flags.growsdown EINVAL
      done (record flags { shared = true; mayshare = true }))
    else (do
      refuse_if (not (asks args MAP_PRIVATE)) EINVAL
      done flags)

-- do_mmap: the one part or the other
abbrev pub flags_of : MmapArgs → Option FileRow → VmFlags → Doing VmFlags
flags_of args (Some file) flags = file_flags args file flags
flags_of args None flags = anonymous_flags args flags

-- accountable_mapping: private memory that may be written, with no MAP_NORESERVE
abbrev pub is_accountable : VmFlags → Bool
is_accountable flags = flags.access.write && not (flags.shared || flags.noreserve)

-- vms_gather_munmap_vmas, nr_accounted: how many pages of these areas are accounted
abbrev pub accounted_pages : List Vma → ℕ
accounted_pages areas = sum (map (λ vma. vma.hi - vma.lo) (filter (λ vma. vma.flags.account) areas))

-- shmem_zero_setup: shared anonymous memory is a new object of its own, numbered behind the files
abbrev pub new_object : Kernel → ℕ → Doing ℕ
new_object kernel pages space = record {
  space = record space { objects = space.objects ++ pages ∷ [] };
  result = Ok (length kernel.config.files + length space.objects + 1);
}

-- __mmap_new_vma: what the mapping maps: a file, a new shared object, which is charged, or nothing
unfoldable pub mapped_object : Kernel → VmFlags → ℕ → ℕ → Doing ℕ
mapped_object kernel flags file pages = if flags.shared && nat_eq file 0
    then (do
      refuse_if (not flags.noreserve && lacks_memory kernel pages) ENOMEM
      new_object kernel pages)
    else done file

-- mmap_region up to 6.11: the next area is tried first, and the previous one joins only with the next one's anon_vma
unfoldable pub old_left : Kernel → Option Vma → Option Vma → Vma → Option Vma
old_left kernel None next new = None
old_left kernel (Some prev) next new = option_map_or
    (λ right. if not (merges_right kernel.rules right new None) || merges_left kernel.rules prev (record new { anon = right.anon }) None then Some prev else None)
    next (Some prev)

-- mmap_region (6.12): the previous area as a neighbour to join
abbrev pub left_neighbour : Kernel → Option Vma → Option Vma → Vma → Option Vma
left_neighbour kernel prev next new = if kernel.rules.replaces_last then prev else old_left kernel prev next new

-- what a merge left, or the new area
abbrev pub merged_or_new : Vma → List Vma → Option Merged → Doing Vma
merged_or_new new areas (Some merged) = do
  set_areas merged.areas
  done merged.vma
merged_or_new new areas None = do
  set_areas (with_vma new areas)
  done new

-- __mmap_new_vma, or a merge with the neighbours
unfoldable pub put_new : Kernel → Vma → Doing Vma
put_new kernel new = do
  areas ← areas_now
  let prev = vma_before areas new.lo in let next = vma_from areas new.hi in
      merged_or_new new areas (merge_new_range kernel.rules areas (left_neighbour kernel prev next new) next new None)

-- mmap_region: splits off what lies there, charges memory, removes what lies there, and adds the area. Up to 6.11 it removes first, and counts
-- nothing back.
unfoldable pub mmap_region : Kernel → ℕ → ℕ → VmFlags → ℕ → ℕ → Doing Vma
mmap_region kernel lo pages flags file index = do
  gone ← gather_vmas kernel lo (lo + pages)
  if kernel.rules.replaces_last then done tt else remove gone
  refuse_if (is_accountable flags && lacks_memory kernel (if kernel.rules.replaces_last then pages - accounted_pages gone else pages)) ENOMEM
  remove gone
  number ← mapped_object kernel flags file pages
  put_new kernel (record { lo = lo; hi = lo + pages; flags = record flags { account = is_accountable flags }; file = number; pgoff = index; anon = None })

-- do_mmap, pgoff: private anonymous memory counts from its first place, shared anonymous memory from 0
abbrev pub first_index : Option FileRow → MmapArgs → ℕ → ℕ
first_index (Some file) args start = args.offset / PAGE_SIZE
first_index None args start = if asks args MAP_SHARED then 0 else start

-- mm_populate (MAP_POPULATE): private writable memory is written to
abbrev pub populate : MmapArgs → VmFlags → Vma → Doing Vma
populate args flags vma = if asks args MAP_POPULATE && (flags.access.write && not flags.shared) then anon_vma_prepare vma else done vma

-- ksys_mmap_pgoff, do_mmap: mmap. Returns the address.
unfoldable pub mmap : Kernel → MmapArgs → Doing ℕ
mmap kernel args = do
  refuse_if (not (is_aligned args.offset)) EINVAL
  refuse_if (not (asks args MAP_ANONYMOUS) && is_none (file_of_call kernel args)) EBADF
  refuse_if (nat_eq args.len 0) EINVAL
  refuse_if (nat_eq (pages_of args.len) 0) ENOMEM
  areas ← areas_now
  refuse_if (nat_lt kernel.config.areas (length areas)) ENOMEM
  start ← get_unmapped_area kernel (address_of kernel args) (pages_of args.len) (is_fixed args) (args.offset / PAGE_SIZE)
      (is_some (file_of_call kernel args)) (asks args MAP_SHARED)
  refuse_if (asks args MAP_FIXED_NOREPLACE && not (is_free areas (pages_of args.len) start)) EEXIST
  flags ← flags_of args (file_of_call kernel args) (common_flags kernel args)
  vma ← mmap_region kernel start (pages_of args.len) flags (file_number kernel args) (first_index (file_of_call kernel args) args start)
  written ← populate args flags vma
  done (PAGE_SIZE * start)
