-- What a plan of mremap(2) rests on, and what it makes.
use Rattle.std.specs.Prelude.{ℕ, ◌≡◌, Bool, not, ◌&&◌, ◌||◌, if◌then◌else◌, List, [], Option, Some, None}
use Rattle.mm_types.specs.declared.area.Record.{Record}
use Rattle.mm_types.specs.declared.config.Config.{Config}
use Rattle.mm_types.specs.Config.{IsValidConfig}
use Rattle.area_rules.specs.declared.placement.Bounds.{Bounds}
use Rattle.area_rules.specs.declared.mremap_request.Moved.{Moved}
use Rattle.area_rules.specs.declared.mremap_request.MremapArgs.{MremapArgs}
use Rattle.area_list.specs.Areas.{page_of, area_at}
use Rattle.area_rules.specs.Placement.{bounds_of}
use Rattle.mm_types.specs.Rows.{first_row}
use Rattle.area_rules.specs.Mremap.{moves_to, lengthens, old_range, has_room, new_place, mremap_rows}
use Rattle.area_rules.specs.Laws.{moved_range}
use Rattle.split_merge.specs.declared.plan.Change.{Change}
use Rattle.split_merge.specs.Plans.{Makes, IsLocalToEither, IsPlannedFor}

-- no test of the request refuses the call, and this area has the first page of the old range
pub record IsAccepted (config : Config) (areas : List Record) (args : MremapArgs) (area : Record) : Type 0 where
  pub found : area_at areas (page_of args.old) ≡ Some area
  pub accepted : first_row (mremap_rows config areas args) ≡ None

-- a change may be planned: the configuration is valid, the list is kept by its numbers, and the call is accepted
pub record IsAdmitted (config : Config) (bounds : Bounds) (most : ℕ) (areas : List Record) (args : MremapArgs) (area : Record) : Type 0 where
  pub valid : IsValidConfig config
  pub numbers : bounds ≡ bounds_of config
  pub kept : IsPlannedFor bounds most areas
  pub accepted : IsAccepted config areas args area

-- the range goes elsewhere: to a fixed place, or since it grows where it has no room
unfoldable pub goes_elsewhere : Config → List Record → MremapArgs → Bool
goes_elsewhere config areas args = moves_to args || (lengthens args && not (has_room config areas args))

-- the page that a range goes to
unfoldable pub other_place : Config → List Record → MremapArgs → Option ℕ
other_place config areas args = if moves_to args then Some (page_of args.new) else new_place config areas args

-- a plan makes the list after a change, and is local to the old range and the new one, which begins at this page
pub record MakesAt (page : ℕ) (args : MremapArgs) (plan : List Change) (old new : List Record) : Type 0 where
  pub makes : Makes plan old new
  pub local : IsLocalToEither (old_range args) (moved_range args page) old plan

-- a plan makes the change that there is, after which the range begins at this page; without a change it is empty
abbrev pub PlansChange : MremapArgs → List Change → List Record → Option Moved → Option ℕ → Type 0
PlansChange args plan areas change None = (change ≡ None) × (plan ≡ [])
PlansChange args plan areas change (Some page) = (after : List Record) × (change ≡ Some (record { areas = after; page = page })) × MakesAt page args plan areas after
