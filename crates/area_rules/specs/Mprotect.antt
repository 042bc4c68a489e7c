-- mprotect(2), row by row.
use Rattle.std.specs.Prelude.{ℕ, ◌≡◌, ◌<◌, ◌≤◌, ◌+◌, ◌*◌, Bool, true, false, not, ◌&&◌, if◌then◌else◌, nat_eq, nat_le, List, [], ◌∷◌, ◌++◌, Option, Some, None, unwrap_or}
use Rattle.std.specs.Option.{option_map_or}
use Rattle.mm_types.specs.declared.area.Span.{Span}
use Rattle.mm_types.specs.declared.area.Prot.{Prot}
use Rattle.mm_types.specs.declared.area.Record.{Record}
use Rattle.mm_types.specs.declared.call.Errno.{Errno}
use Rattle.mm_types.specs.declared.call.Errno.TheVariants.{Eperm, Enomem, Eacces, Einval}
use Rattle.mm_types.specs.declared.call.Reply.{Reply}
use Rattle.mm_types.specs.declared.call.Reply.TheVariants.{Zero, Refused}
use Rattle.mm_types.specs.declared.config.Config.{Config}
use Rattle.mm_types.specs.declared.config.TheConstants.{PAGE_SIZE, ADDRESSES_END}
use Rattle.mm_types.specs.Records.{holds_all}
use Rattle.area_list.specs.Areas.{area_at}
use Rattle.area_list.specs.Changes.{protected_list}
use Rattle.area_rules.specs.Placement.{least_below}
use Rattle.area_rules.specs.Tables.{AddressSpace, Outcome, unless_answered, is_aligned, pages_of, has_too_many_areas}
use Rattle.mm_types.specs.Rows.{first_row}
use Rattle.area_rules.specs.Munmap.{range_of}
use Rattle.area_rules.specs.Seals.{has_sealed}

-- whether a page is mapped by an area that may have this protection
unfoldable pub may_have : Prot → Option Record → Bool
may_have prot None = false
may_have prot (Some area) = holds_all area.attr.most prot

-- A page is where mprotect(2) stops in a range: each page of the range before it is mapped and may have the protection, and it is
-- the range's end, or not mapped, or may not have the protection.
pub record IsStop (prot : Prot) (range : Span) (areas : List Record) (stop : ℕ) : Type 0 where
  pub begins : range.lo ≤ stop
  pub ends : stop ≤ range.hi
  pub before : (page : ℕ) → range.lo ≤ page → page < stop → may_have prot (area_at areas page) ≡ true
  pub stopped : stop < range.hi → may_have prot (area_at areas stop) ≡ false

-- whether mprotect(2) stops at a page, if it comes there
abbrev pub stops_at : Prot → Span → List Record → ℕ → Bool
stops_at prot range areas page = nat_le range.lo page && not (may_have prot (area_at areas page))

-- the stop, as it is searched: the first page of the range at which it stops, or the range's end
unfoldable pub stop_of : Prot → Span → List Record → ℕ
stop_of prot range areas = unwrap_or (least_below (stops_at prot range areas) range.hi) range.hi

-- the pages of the range before the stop
abbrev pub prefix_of : Prot → Span → List Record → Span
prefix_of prot range areas = record { lo = range.lo; hi = stop_of prot range areas }

-- the list with the protection on those pages: the only canonical one that maps them so and all others as before
unfoldable pub protected_prefix : Prot → Span → List Record → List Record
protected_prefix prot range areas = protected_list prot (prefix_of prot range areas) areas

-- the tests of the request alone, in their order: not aligned, empty length, past 2^64
unfoldable pub protect_request_rows : ℕ → ℕ → List (Bool × Reply)
protect_request_rows addr len =
    (not (is_aligned addr), Refused Einval)
    ∷ (nat_eq len 0, Zero)
    ∷ (nat_le ADDRESSES_END (addr + PAGE_SIZE * pages_of len), Refused Enomem)
    ∷ []

-- all tests that change nothing: those of the request, a sealed page of the range, and too many areas
unfoldable pub mprotect_rows : Config → List Record → ℕ → ℕ → Prot → List (Bool × Reply)
mprotect_rows config areas addr len prot = protect_request_rows addr len
    ++ (has_sealed (range_of addr len) areas, Refused Eperm)
    ∷ (has_too_many_areas config (protected_prefix prot (range_of addr len) areas), Refused Enomem)
    ∷ []

-- why the call stops before the range's end, if it does: the page there is not mapped, or may not have the protection
unfoldable pub stop_error : Span → ℕ → Option Record → Option Errno
stop_error range stop area = if nat_le range.hi stop then None else Some (denied_errno area)
  where
    denied_errno : Option Record → Errno
    denied_errno None = Enomem
    denied_errno (Some area) = Eacces

-- the reply of a call that stops for this reason, or at the range's end
abbrev pub stopped_reply : Option Errno → Reply
stopped_reply error = option_map_or Refused error Zero

-- the pages before the stop have the protection, and the reply says why it stopped
abbrev pub mprotect_done : AddressSpace → Span → Prot → Outcome
mprotect_done space range prot = let stop = stop_of prot range space.areas in record {
  space = record space { areas = protected_prefix prot range space.areas };
  reply = stopped_reply (stop_error range stop (area_at space.areas stop));
}

-- mprotect(2): the first test that holds answers and changes nothing; else the pages before the stop have the protection
unfoldable pub mprotect : Config → AddressSpace → ℕ → ℕ → Prot → Outcome
mprotect config space addr len prot = unless_answered space (first_row (mprotect_rows config space.areas addr len prot))
    (mprotect_done space (range_of addr len) prot)

-- its tests without that of seals, as the call is planned
unfoldable pub mprotect_unsealed_rows : Config → List Record → ℕ → ℕ → Prot → List (Bool × Reply)
mprotect_unsealed_rows config areas addr len prot = protect_request_rows addr len
    ++ (has_too_many_areas config (protected_prefix prot (range_of addr len) areas), Refused Enomem) ∷ []

-- mprotect(2) without the test of seals, as it is planned
unfoldable pub mprotect_unsealed : Config → AddressSpace → ℕ → ℕ → Prot → Outcome
mprotect_unsealed config space addr len prot = unless_answered space
    (first_row (mprotect_unsealed_rows config space.areas addr len prot)) (mprotect_done space (range_of addr len) prot)
