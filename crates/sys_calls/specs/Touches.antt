-- How many changes a touch plans.
use Rattle.std.specs.Prelude.{◌≡◌, ◌≤◌, List, length}
use Rattle.mm_types.specs.declared.area.Access.{Access}
use Rattle.mm_types.specs.declared.area.Page.{Page}
use Rattle.mm_types.specs.declared.call.Call.{Call}
use Rattle.mm_types.specs.declared.call.Call.TheVariants.{Touch}
use Rattle.split_merge.specs.declared.plan.Change.{Change}

-- a plan of a touch has one change at most
abbrev pub TouchesOne : Call → List Change → Type 0
TouchesOne call changes = (page : Page) (access : Access) → call ≡ Touch page access → length changes ≤ 1
