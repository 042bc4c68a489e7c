-- brk(2), row by row. The heap is the memory from the address of the configuration up to the break.
use Rattle.std.specs.Prelude.{ℕ, ◌+◌, ◌-◌, Bool, true, false, not, ◌&&◌, ◌||◌, nat_eq, nat_lt, List, [], ◌∷◌, unwrap_or}
use Rattle.mm_types.specs.declared.area.Attr.{Attr}
use Rattle.mm_types.specs.declared.area.Record.{Record}
use Rattle.mm_types.specs.declared.area.Span.{Span}
use Rattle.mm_types.specs.declared.call.Reply.TheVariants.{Addr}
use Rattle.mm_types.specs.declared.config.Config.{Config}
use Rattle.mm_types.specs.Rows.{first_row}
use Rattle.area_list.specs.Areas.{page_of}
use Rattle.area_list.specs.Changes.{cut, put}
use Rattle.area_rules.specs.Placement.{is_free}
use Rattle.area_rules.specs.Seals.{has_sealed}
use Rattle.area_rules.specs.Tables.{AddressSpace, Outcome, pages_of, has_too_many_areas}

-- the pages between two breaks, each rounded up to a page
abbrev pub pages_between : ℕ → ℕ → Span
pages_between low high = record { lo = pages_of low; hi = pages_of high }

-- the attributes of the heap: private memory to read and write
abbrev pub heap_attr : Attr
heap_attr = record {
  prot = record { read = true; write = true; exec = false };
  most = record { read = true; write = true; exec = true };
  shared = false;
  grows = false;
  sealed = false;
  heap = true;
}

-- an area of the heap: private anonymous memory to read and write
unfoldable pub heap_area : Span → Record
heap_area span = record { span = span; attr = heap_attr; object = 0; offset = 0 }

-- the break stays, and so does all else
abbrev pub break_kept : AddressSpace → Outcome
break_kept space = record { space = space; reply = Addr space.brk }

-- the break is the address, with this list
abbrev pub break_moved : AddressSpace → ℕ → List Record → Outcome
break_moved space addr areas = record { space = record space { areas = areas; brk = addr }; reply = Addr addr }

-- the list without the pages that a lower break gives back
abbrev pub lowered_list : AddressSpace → ℕ → List Record
lowered_list space addr = cut (pages_between addr space.brk) space.areas

-- the list with the pages that a higher break takes
abbrev pub raised_list : AddressSpace → ℕ → List Record
raised_list space addr = put (heap_area (pages_between space.brk addr)) space.areas

-- whether the pages that a higher break takes, and one more, are free and end at or below the limit
unfoldable pub has_room_above : Config → AddressSpace → ℕ → Bool
has_room_above config space addr = let old = pages_of space.brk in let new = pages_of addr in
    not (nat_lt (page_of config.limit) (new + 1)) && is_free space.areas (new + 1 - old) old

-- The cases of a break that is not raised, or cannot be, in their order: no heap or below its begin; the same page; lower, where a
-- page given back is sealed or too many areas would be left; lower; raised where there is no room, or there would be too many areas.
unfoldable pub brk_rows : Config → AddressSpace → ℕ → List (Bool × Outcome)
brk_rows config space addr =
    (nat_eq config.heap 0 || nat_lt addr config.heap, break_kept space)
    ∷ (nat_eq (pages_of addr) (pages_of space.brk), break_moved space addr space.areas)
    ∷ (
      nat_lt (pages_of addr) (pages_of space.brk)
          && (has_sealed (pages_between addr space.brk) space.areas || has_too_many_areas config (lowered_list space addr)),
      break_kept space,
    )
    ∷ (nat_lt (pages_of addr) (pages_of space.brk), break_moved space addr (lowered_list space addr))
    ∷ (not (has_room_above config space addr), break_kept space)
    ∷ (has_too_many_areas config (raised_list space addr), break_kept space)
    ∷ []

-- brk(2): the first case that holds, and else the break is raised
unfoldable pub brk : Config → AddressSpace → ℕ → Outcome
brk config space addr = unwrap_or (first_row (brk_rows config space addr)) (break_moved space addr (raised_list space addr))
