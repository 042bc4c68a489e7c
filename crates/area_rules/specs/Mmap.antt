-- mmap(2), row by row.
use Rattle.std.specs.Prelude.{ℕ, ℤ, ◌+◌, ◌-◌, ◌*◌, ◌^◌, Bool, true, false, not, ◌&&◌, ◌||◌, if◌then◌else◌, nat_eq, nat_lt, List, [], ◌∷◌, find, position, Option, Some, option_map, is_none, None}
use Rattle.std.specs.Option.{option_map_or}
use Rattle.std.specs.Ordering.{int_eq}
use Rattle.mm_types.specs.declared.area.Prot.{Prot}
use Rattle.mm_types.specs.declared.area.Record.{Record}
use Rattle.mm_types.specs.declared.call.Errno.{Errno}
use Rattle.mm_types.specs.declared.call.Errno.TheVariants.{Eperm, Ebadf, Enomem, Eacces, Eexist, Einval, Eoverflow}
use Rattle.mm_types.specs.declared.call.MmapArgs.{MmapArgs}
use Rattle.mm_types.specs.declared.call.Reply.TheVariants.{Addr, Refused}
use Rattle.mm_types.specs.declared.config.Config.{Config}
use Rattle.mm_types.specs.declared.config.TheConstants.{PAGE_SIZE}
use Rattle.mm_types.specs.declared.files.FileRow.{FileRow}
use Rattle.mm_types.specs.declared.flags.TheConstants.{MAP_SHARED, MAP_PRIVATE, MAP_FIXED, MAP_ANONYMOUS, MAP_GROWSDOWN, MAP_FIXED_NOREPLACE}
use Rattle.area_list.specs.Areas.{page_of}
use Rattle.area_list.specs.Changes.{put}
use Rattle.area_rules.specs.Placement.{bounds_of, place, is_free}
use Rattle.area_rules.specs.Tables.{AddressSpace, Outcome, unless_refused, is_aligned, pages_of, has_too_many_areas}
use Rattle.area_rules.specs.Munmap.{range_of}
use Rattle.area_rules.specs.Seals.{has_sealed}
use Rattle.mm_types.specs.Rows.{first_row}
use Rattle.mm_types.specs.Flags.{has_flag}

-- MAP_ANONYMOUS: no file is mapped
abbrev pub is_anonymous : MmapArgs → Bool
is_anonymous args = has_flag args.flags MAP_ANONYMOUS

-- MAP_SHARED: what is written is seen by others
abbrev pub is_shared : MmapArgs → Bool
is_shared args = has_flag args.flags MAP_SHARED

-- MAP_GROWSDOWN: the area grows where the page right below it is touched
abbrev pub grows_down : MmapArgs → Bool
grows_down args = has_flag args.flags MAP_GROWSDOWN

-- MAP_FIXED_NOREPLACE: placed at the address, unless something is mapped there
abbrev pub is_noreplace : MmapArgs → Bool
is_noreplace args = has_flag args.flags MAP_FIXED_NOREPLACE

-- whether the address itself is the place: MAP_FIXED or MAP_FIXED_NOREPLACE
unfoldable pub is_fixed : MmapArgs → Bool
is_fixed args = has_flag args.flags MAP_FIXED || is_noreplace args

-- the file of a descriptor
abbrev pub file_of : List FileRow → ℤ → Option FileRow
file_of files fd = find (λ file. int_eq file.fd fd) files

-- its place among the files
unfoldable pub file_place : List FileRow → ℤ → Option ℕ
file_place files fd = position (λ file. int_eq file.fd fd) files

-- its object number, which counts from 1
unfoldable pub object_of : List FileRow → ℤ → Option ℕ
object_of files fd = option_map (λ place. place + 1) (file_place files fd)

-- the descriptor is no file's, and one is wanted
unfoldable pub lacks_file : Config → MmapArgs → Bool
lacks_file config args = not (is_anonymous args) && is_none (file_of config.files args.fd)

-- the range would end past 2^63 - 1 of the file
unfoldable pub overflows_offset : MmapArgs → Bool
overflows_offset args = not (is_anonymous args) && nat_lt (2 ^ 63 - 1) (args.offset + PAGE_SIZE * pages_of args.len)

-- both or none of the two ways of sharing are named
unfoldable pub has_no_sharing : MmapArgs → Bool
has_no_sharing args = if is_shared args then has_flag args.flags MAP_PRIVATE else not (has_flag args.flags MAP_PRIVATE)

-- what grows would not be private anonymous memory
unfoldable pub cannot_grow : MmapArgs → Bool
cannot_grow args = grows_down args && (not (is_anonymous args) || is_shared args)

-- the file is not open for what the mapping wants of it
abbrev pub denies : MmapArgs → FileRow → Bool
denies args file = not file.read || (is_shared args && (args.prot.write && not file.write))

-- a file is mapped that is not open for it
unfoldable pub is_denied : Config → MmapArgs → Bool
is_denied config args = not (is_anonymous args) && option_map_or (denies args) (file_of config.files args.fd) false

-- a page of the range is mapped, and the call keeps what is mapped
unfoldable pub is_taken : List Record → MmapArgs → Bool
is_taken areas args = is_noreplace args && not (is_free areas (pages_of args.len) (page_of args.addr))

-- where the mapping begins, if it has a place
unfoldable pub start_of : Config → List Record → MmapArgs → Option ℕ
start_of config areas args = if is_fixed args then Some (page_of args.addr) else place (bounds_of config) areas (pages_of args.len) args.addr

-- all three accesses, but no write through a shared mapping of a file that is not open for writing
abbrev pub most_of : Bool → FileRow → Prot
most_of shared file = record { read = true; write = not shared || file.write; exec = true }

-- the most that mprotect(2) may allow later
unfoldable pub most_allowed : Config → MmapArgs → Prot
most_allowed config args = if is_anonymous args then record { read = true; write = true; exec = true }
    else option_map_or (most_of (is_shared args)) (file_of config.files args.fd) (record { read = true; write = true; exec = true })

-- the object that is mapped: the next shared anonymous one, none, or a file
unfoldable pub object_mapped : Config → ℕ → MmapArgs → ℕ
object_mapped config objects args = if is_anonymous args then (if is_shared args then objects + 1 else 0)
    else option_map_or (λ object. object) (object_of config.files args.fd) 0

-- how many objects are numbered after it
unfoldable pub objects_after : ℕ → MmapArgs → ℕ
objects_after objects args = if is_anonymous args && is_shared args then objects + 1 else objects

-- the new area at a page
unfoldable pub new_area : Config → ℕ → MmapArgs → ℕ → Record
new_area config objects args start = record {
  span = record { lo = start; hi = start + pages_of args.len };
  attr = record { prot = args.prot; most = most_allowed config args; shared = is_shared args; grows = grows_down args; sealed = false; heap = false };
  object = object_mapped config objects args;
  offset = if is_anonymous args then 0 else page_of args.offset;
}

-- the list with the new area
unfoldable pub mapped_list : Config → AddressSpace → MmapArgs → ℕ → List Record
mapped_list config space args start = put (new_area config space.objects args start) space.areas

-- the tests of the request, in their order: offset not aligned, no such file, empty length, longer than user memory,
-- offset overflow, sharing flag, growth of other than private anonymous memory, file access; then of a fixed place: not aligned, below the minimum, past the limit, in use
unfoldable pub mmap_rows : Config → List Record → MmapArgs → List (Bool × Errno)
mmap_rows config areas args =
    (not (is_aligned args.offset), Einval)
    ∷ (lacks_file config args, Ebadf)
    ∷ (nat_eq args.len 0, Einval)
    ∷ (nat_lt (page_of config.limit) (pages_of args.len), Enomem)
    ∷ (overflows_offset args, Eoverflow)
    ∷ (has_no_sharing args, Einval)
    ∷ (cannot_grow args, Einval)
    ∷ (is_denied config args, Eacces)
    ∷ (is_fixed args && not (is_aligned args.addr), Einval)
    ∷ (is_fixed args && nat_lt args.addr config.min, Eperm)
    ∷ (is_fixed args && nat_lt config.limit (args.addr + PAGE_SIZE * pages_of args.len), Enomem)
    ∷ (is_taken areas args, Eexist)
    ∷ []

-- MAP_FIXED, and a page of the range is sealed
unfoldable pub maps_over_seal : List Record → MmapArgs → Bool
maps_over_seal areas args = has_flag args.flags MAP_FIXED && has_sealed (range_of args.addr args.len) areas

-- the last tests, at its place: too many areas, a sealed page
abbrev pub mmap_list_rows : Config → AddressSpace → MmapArgs → ℕ → List (Bool × Errno)
mmap_list_rows config space args start =
    (has_too_many_areas config (mapped_list config space args start), Enomem)
    ∷ (maps_over_seal space.areas args, Eperm)
    ∷ []

-- the mapping at its place, and the address as reply
unfoldable pub mmap_done : Config → AddressSpace → MmapArgs → ℕ → Outcome
mmap_done config space args start = record {
  space = record { areas = mapped_list config space args start; objects = objects_after space.objects args; brk = space.brk };
  reply = Addr (PAGE_SIZE * start);
}

-- the mapping as far as there is a place: none refuses, and so do too many areas, and a sealed page
unfoldable pub mmap_placed : Config → AddressSpace → MmapArgs → Option ℕ → Outcome
mmap_placed config space args None = record { space = space; reply = Refused Enomem }
mmap_placed config space args (Some start) =
    unless_refused space (first_row (mmap_list_rows config space args start)) (mmap_done config space args start)

-- mmap(2): the first test that holds refuses, and else the new area is put over what was there
unfoldable pub mmap : Config → AddressSpace → MmapArgs → Outcome
mmap config space args = unless_refused space (first_row (mmap_rows config space.areas args))
    (mmap_placed config space args (start_of config space.areas args))

-- the last test without that of seals, as the call is planned: too many areas
abbrev pub mmap_unsealed_rows : Config → AddressSpace → MmapArgs → ℕ → List (Bool × Errno)
mmap_unsealed_rows config space args start = (has_too_many_areas config (mapped_list config space args start), Enomem) ∷ []

-- the mapping as far as there is a place, without the test of seals
unfoldable pub mmap_placed_unsealed : Config → AddressSpace → MmapArgs → Option ℕ → Outcome
mmap_placed_unsealed config space args None = record { space = space; reply = Refused Enomem }
mmap_placed_unsealed config space args (Some start) =
    unless_refused space (first_row (mmap_unsealed_rows config space args start)) (mmap_done config space args start)

-- mmap(2) without the test of seals, as it is planned
unfoldable pub mmap_unsealed : Config → AddressSpace → MmapArgs → Outcome
mmap_unsealed config space args = unless_refused space (first_row (mmap_rows config space.areas args))
    (mmap_placed_unsealed config space args (start_of config space.areas args))
