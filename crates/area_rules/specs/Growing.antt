-- Areas that grow downwards.
use Rattle.std.specs.Prelude.{ℕ, ◌≡◌, ◌+◌, ◌-◌, Bool, true, false, ◌&&◌, if◌then◌else◌, nat_eq, nat_le, List, map, find, All, Option, Some, None}
use Rattle.std.specs.Option.{option_map_or}
use Rattle.mm_types.specs.declared.area.Access.{Access}
use Rattle.mm_types.specs.declared.area.Record.{Record}
use Rattle.mm_types.specs.declared.config.Config.{Config}
use Rattle.area_list.specs.Areas.{page_of}
use Rattle.area_rules.specs.Placement.{is_free}
use Rattle.area_rules.specs.Accesses.{permits}
use Rattle.area_rules.specs.Tables.{AddressSpace, Outcome}
use Rattle.mm_types.specs.declared.call.Errno.TheVariants.{Efault}
use Rattle.mm_types.specs.declared.call.Reply.TheVariants.{Grown, Refused}

-- whether an area would grow into a page
abbrev pub is_above : ℕ → Record → Bool
is_above page area = area.attr.grows && nat_eq area.span.lo (page + 1)

-- The area that grows into a page: it begins at the next one. The page is not below the lowest, and neither it nor the one below
-- it is mapped.
unfoldable pub grower : Config → List Record → ℕ → Option Record
grower config areas page = if nat_le (page_of config.min) page && is_free areas 2 (page - 1) then find (is_above page) areas else None

-- whether a fault grows an area: one grows into its page, and allows the access
unfoldable pub grows : Config → List Record → ℕ → Access → Bool
grows config areas page access = option_map_or (λ area. permits area.attr.prot access) (grower config areas page) false

-- the area with this page as its first
abbrev pub grown_to : ℕ → Record → Record
grown_to page area = record area { span = record area.span { lo = page } }

-- an area after a fault grew the one above a page
abbrev pub grown_at : ℕ → Record → Record
grown_at page area = if is_above page area then grown_to page area else area

-- the list with the area above a page grown into it
unfoldable pub grown_list : ℕ → List Record → List Record
grown_list page areas = map (grown_at page) areas

-- what may grow is private anonymous memory
abbrev pub AreGrowersPrivate : List Record → Type 0
AreGrowersPrivate areas = All (λ area. area.attr.grows ≡ true → area.object ≡ 0) areas

-- a fault that grows: the area above the page takes it, and serves the fault at page 0 of its object
abbrev pub grown : AddressSpace → ℕ → Option Record → Outcome
grown space page None = record { space = space; reply = Refused Efault }
grown space page (Some area) = record { space = record space { areas = grown_list page space.areas }; reply = Grown (grown_to page area) 0 }

-- a touch of a page: a fault that grows an area, and any other is refused and changes nothing
unfoldable pub touch : Config → AddressSpace → ℕ → Access → Outcome
touch config space page access = if grows config space.areas page access then grown space page (grower config space.areas page)
    else record { space = space; reply = Refused Efault }
