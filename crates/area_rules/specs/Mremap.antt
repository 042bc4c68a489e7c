-- mremap(2), row by row.
use Rattle.std.specs.Prelude.{ℕ, ◌+◌, ◌-◌, ◌*◌, min, Bool, true, not, ◌&&◌, ◌||◌, if◌then◌else◌, nat_eq, nat_lt, nat_le, List, [], ◌∷◌, Option, Some, None, option_map, option_and_then}
use Rattle.std.specs.Option.{option_map_or}
use Rattle.mm_types.specs.declared.area.Span.{Span}
use Rattle.mm_types.specs.declared.area.Record.{Record}
use Rattle.mm_types.specs.declared.call.Errno.{Errno}
use Rattle.mm_types.specs.declared.call.Errno.TheVariants.{Eperm, Enomem, Efault, Einval}
use Rattle.mm_types.specs.declared.call.Reply.TheVariants.{Addr, Refused}
use Rattle.mm_types.specs.declared.config.Config.{Config}
use Rattle.mm_types.specs.declared.config.TheConstants.{PAGE_SIZE, MOST_OBJECT_PAGES}
use Rattle.mm_types.specs.declared.flags.TheConstants.{MREMAP_MAYMOVE, MREMAP_FIXED}
use Rattle.area_rules.specs.declared.mremap_request.Moved.{Moved}
use Rattle.area_rules.specs.declared.mremap_request.MremapArgs.{MremapArgs}
use Rattle.area_list.specs.Areas.{page_of, index_of, area_at, overlap}
use Rattle.area_list.specs.Changes.{cut, put}
use Rattle.area_rules.specs.Placement.{bounds_of, place, is_free}
use Rattle.area_rules.specs.Tables.{AddressSpace, Outcome, unless_refused, is_aligned, pages_of, has_too_many_areas}
use Rattle.mm_types.specs.Rows.{first_row}
use Rattle.mm_types.specs.Flags.{has_flag}
use Rattle.area_rules.specs.Munmap.{range_of}
use Rattle.area_rules.specs.Seals.{has_sealed}

-- the arguments of mremap(2) as one
abbrev pub mremap_args : (old old_len new_len flags new : ℕ) → MremapArgs
mremap_args old old_len new_len flags new = record { old = old; old_len = old_len; new_len = new_len; flags = flags; new = new }

-- MREMAP_FIXED: the area moves to a fixed place
abbrev pub moves_to : MremapArgs → Bool
moves_to args = has_flag args.flags MREMAP_FIXED

-- MREMAP_MAYMOVE: the area may move
abbrev pub may_move : MremapArgs → Bool
may_move args = has_flag args.flags MREMAP_MAYMOVE

-- the pages of the old range
abbrev pub old_range : MremapArgs → Span
old_range args = range_of args.old args.old_len

-- the pages of the new range at its fixed place
abbrev pub new_range : MremapArgs → Span
new_range args = range_of args.new args.new_len

-- the range gets longer
abbrev pub lengthens : MremapArgs → Bool
lengthens args = nat_lt (pages_of args.old_len) (pages_of args.new_len)

-- a flag is set other than these two, which are bits 0 and 1
unfoldable pub has_other_flag : MremapArgs → Bool
has_other_flag args = nat_lt (MREMAP_MAYMOVE + MREMAP_FIXED) args.flags

-- the fixed place is not aligned, or past the limit
unfoldable pub is_new_misplaced : Config → MremapArgs → Bool
is_new_misplaced config args = moves_to args && (not (is_aligned args.new) || nat_lt config.limit (args.new + PAGE_SIZE * pages_of args.new_len))

-- the call moves to a fixed place or grows, and the pages that stay go past the end of the area that has the first of them
unfoldable pub leaves_area : MremapArgs → Record → Bool
leaves_area args area = (moves_to args || lengthens args)
    && nat_lt area.span.hi (page_of args.old + min (pages_of args.old_len) (pages_of args.new_len))

-- the grown range would go past the greatest index of its object
unfoldable pub overflows_object : MremapArgs → Record → Bool
overflows_object args area = lengthens args
    && (not (nat_eq area.object 0) && nat_lt MOST_OBJECT_PAGES (index_of area (page_of args.old) + pages_of args.new_len))

-- the tests of the area that has the first page of the old range, in their order: spread over areas, object overflow
abbrev pub area_rows : MremapArgs → Record → List (Bool × Errno)
area_rows args area =
    (leaves_area args area, Efault)
    ∷ (overflows_object args area, Einval)
    ∷ []

-- the tests of the old range: its first page is not mapped, and those of the area that has it
abbrev pub range_rows : List Record → MremapArgs → List (Bool × Errno)
range_rows areas args = option_map_or (area_rows args) (area_at areas (page_of args.old)) ((true, Efault) ∷ [])

-- the tests, in their order: other flag, fixed without MREMAP_MAYMOVE, old not aligned, empty new length, empty old length,
-- old past the limit; of a fixed place: misplaced, below the minimum, overlap; and those of the old range
unfoldable pub mremap_rows : Config → List Record → MremapArgs → List (Bool × Errno)
mremap_rows config areas args =
    (has_other_flag args, Einval)
    ∷ (moves_to args && not (may_move args), Einval)
    ∷ (not (is_aligned args.old), Einval)
    ∷ (nat_eq args.new_len 0, Einval)
    ∷ (nat_eq args.old_len 0, Einval)
    ∷ (nat_lt config.limit (args.old + PAGE_SIZE * pages_of args.old_len), Efault)
    ∷ (is_new_misplaced config args, Einval)
    ∷ (moves_to args && nat_lt args.new config.min, Eperm)
    ∷ (moves_to args && overlap (old_range args) (new_range args), Einval)
    ∷ range_rows areas args

-- an area with the attributes and the object of the old one, from a page of the old range on
unfoldable pub carried_area : Record → ℕ → Span → Record
carried_area area from span = record area { span = span; offset = index_of area from }

-- moved: put at its new place, and the old range cut out after
unfoldable pub moved_list : List Record → Record → MremapArgs → ℕ → List Record
moved_list areas area args start = cut (old_range args)
    (put (carried_area area (page_of args.old) (record { lo = start; hi = start + pages_of args.new_len })) areas)

-- the list and the page after a move
abbrev pub moved : List Record → Record → MremapArgs → ℕ → Moved
moved areas area args start = record { areas = moved_list areas area args start; page = start }

-- shrunk in place: what lies past the new length is cut out; nothing where the lengths are the same
unfoldable pub shrunk_list : List Record → MremapArgs → List Record
shrunk_list areas args = if nat_lt (pages_of args.new_len) (pages_of args.old_len)
    then cut (record { lo = page_of args.old + pages_of args.new_len; hi = page_of args.old + pages_of args.old_len }) areas
    else areas

-- the pages past the old range that a longer one takes
unfoldable pub added_range : MremapArgs → Span
added_range args = record { lo = page_of args.old + pages_of args.old_len; hi = page_of args.old + pages_of args.new_len }

-- whether the added range is free and ends at or below the limit
unfoldable pub has_room : Config → List Record → MremapArgs → Bool
has_room config areas args = nat_le (page_of args.old + pages_of args.new_len) (page_of config.limit)
    && is_free areas (pages_of args.new_len - pages_of args.old_len) (page_of args.old + pages_of args.old_len)

-- grown in place: an area that runs on is put after the old range
unfoldable pub lengthened_list : List Record → Record → MremapArgs → List Record
lengthened_list areas area args = put (carried_area area (added_range args).lo (added_range args)) areas

-- where a range that grows may move to
unfoldable pub new_place : Config → List Record → MremapArgs → Option ℕ
new_place config areas args = if may_move args then place (bounds_of config) areas (pages_of args.new_len) 0 else None

-- the first case that holds: to a fixed place, shrunk in place, grown in place, moved to a place that is found
unfoldable pub mremap_change : Config → List Record → Record → MremapArgs → Option Moved
mremap_change config areas area args = if moves_to args then Some (moved areas area args (page_of args.new))
    else (if not (lengthens args) then Some (record { areas = shrunk_list areas args; page = page_of args.old })
    else (if has_room config areas args then Some (record { areas = lengthened_list areas area args; page = page_of args.old })
    else option_map (moved areas area args) (new_place config areas args)))

-- a page of the old range is sealed, or one of the fixed new range
unfoldable pub remaps_seal : List Record → MremapArgs → Bool
remaps_seal areas args = has_sealed (old_range args) areas || (moves_to args && has_sealed (new_range args) areas)

-- the last tests: too many areas, a sealed page
abbrev pub mremap_list_rows : Config → List Record → MremapArgs → Moved → List (Bool × Errno)
mremap_list_rows config areas args change =
    (has_too_many_areas config change.areas, Enomem)
    ∷ (remaps_seal areas args, Eperm)
    ∷ []

-- the outcome of a change: the list after it, and the address of its page as reply
unfoldable pub mremap_done : AddressSpace → Moved → Outcome
mremap_done space change = record {
  space = record space { areas = change.areas };
  reply = Addr (PAGE_SIZE * change.page);
}

-- the change as far as there is one: no place or no MREMAP_MAYMOVE refuses, and so do too many areas, and a sealed page
unfoldable pub mremap_changed : Config → AddressSpace → MremapArgs → Option Moved → Outcome
mremap_changed config space args None = record { space = space; reply = Refused Enomem }
mremap_changed config space args (Some change) =
    unless_refused space (first_row (mremap_list_rows config space.areas args change)) (mremap_done space change)

-- mremap(2): the first test that holds refuses, and else the area is moved, shrunk or grown
unfoldable pub mremap : Config → AddressSpace → MremapArgs → Outcome
mremap config space args = unless_refused space (first_row (mremap_rows config space.areas args)) (mremap_changed config space args
    (option_and_then (λ area. mremap_change config space.areas area args) (area_at space.areas (page_of args.old))))

-- the last test without that of seals, as the call is planned: too many areas
abbrev pub mremap_unsealed_rows : Config → Moved → List (Bool × Errno)
mremap_unsealed_rows config change = (has_too_many_areas config change.areas, Enomem) ∷ []

-- the change as far as there is one, without the test of seals
unfoldable pub mremap_changed_unsealed : Config → AddressSpace → Option Moved → Outcome
mremap_changed_unsealed config space None = record { space = space; reply = Refused Enomem }
mremap_changed_unsealed config space (Some change) =
    unless_refused space (first_row (mremap_unsealed_rows config change)) (mremap_done space change)

-- mremap(2) without the test of seals, as it is planned
unfoldable pub mremap_unsealed : Config → AddressSpace → MremapArgs → Outcome
mremap_unsealed config space args = unless_refused space (first_row (mremap_rows config space.areas args)) (mremap_changed_unsealed config space
    (option_and_then (λ area. mremap_change config space.areas area args) (area_at space.areas (page_of args.old))))
