-- The verdict on a page fault.
use Rattle.std.specs.Prelude.{ℕ, ◌-◌, Bool, false, not, ◌&&◌, if◌then◌else◌, nat_eq, nat_le, List, Option, Some, None, slice_get}
use Rattle.std.specs.Option.{option_map_or}
use Rattle.mm_types.specs.declared.area.Access.{Access}
use Rattle.mm_types.specs.declared.area.Record.{Record}
use Rattle.mm_types.specs.declared.area.Verdict.{Verdict}
use Rattle.mm_types.specs.declared.area.Verdict.TheVariants.{Served, MapErr, AccErr, BusErr}
use Rattle.mm_types.specs.declared.config.Config.{Config}
use Rattle.mm_types.specs.declared.files.FileRow.{FileRow}
use Rattle.area_rules.specs.Accesses.{permits}
use Rattle.area_rules.specs.Growing.{grower}
use Rattle.area_list.specs.Areas.{index_of, area_at}
use Rattle.area_rules.specs.Tables.{pages_of}

-- whether a page of an area lies at or past the end of its file, in pages rounded up
unfoldable pub is_past_end : List FileRow → Record → ℕ → Bool
is_past_end files area page = not (nat_eq area.object 0)
    && option_map_or (λ file. nat_le (pages_of file.size) (index_of area page)) (slice_get files (area.object - 1)) false

-- the verdict on a fault at a page that an area has
unfoldable pub area_verdict : List FileRow → ℕ → Access → Record → Verdict
area_verdict files page access area = if not (permits area.attr.prot access) then AccErr
    else (if is_past_end files area page then BusErr else Served area (index_of area page))

-- the verdict on a fault at a page that no area has: one that would grow into it does not allow the access, or there is none
abbrev pub unmapped_verdict : Option Record → Verdict
unmapped_verdict None = MapErr
unmapped_verdict (Some area) = AccErr

-- the verdict on a fault that does not grow: no area has the page, its protection does not allow the access, the page lies past
-- the end of the file, or it is served
unfoldable pub verdict : Config → List Record → ℕ → Access → Verdict
verdict config areas page access = option_map_or (area_verdict config.files page access) (area_at areas page)
    (unmapped_verdict (grower config areas page))
