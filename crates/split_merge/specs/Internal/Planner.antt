-- How the planner goes along a list.
use Rattle.std.specs.Prelude.{ℕ, ◌≡◌, ◌≤◌, ◌+◌, ◌⊎◌, Bool, ◌&&◌, if◌then◌else◌, nat_eq, nat_lt, List, [], ◌∷◌, ◌++◌, length, map, flat_map, Option, Some, None}
use Rattle.std.specs.Option.{option_len, option_or}
use Rattle.mm_types.specs.declared.area.Record.{Record}
use Rattle.area_list.specs.Areas.{joins, same_attr}
use Rattle.area_list.specs.Changes.{joined_area}
use Rattle.split_merge.specs.declared.plan.Change.{Change}
use Rattle.split_merge.specs.declared.plan.Change.TheVariants.{Detach, Alter, Add}
use Rattle.split_merge.specs.declared.becoming.Becoming.{Becoming}
use Rattle.split_merge.specs.declared.planner.Merging.{Merging}
use Rattle.split_merge.specs.declared.planner.Planner.{Planner}
use Rattle.split_merge.specs.Internal.Becoming.{lower_span, upper_span, parts_left}
use Rattle.split_merge.specs.Plans.{PlanView, is_near_either}

-- what the planner meets, by ascending page: the first page of an old area, a part that takes its place (or the new area), or an old area that it passes over
pub data Event : Type 0 where
  Begins : Record → Event
  Comes : Record → Event
  Passed : Record → Event

-- the page at which it does
abbrev pub page_at : Event → ℕ
page_at (Event.Begins area) = area.span.lo
page_at (Event.Comes area) = area.span.lo
page_at (Event.Passed area) = area.span.lo

-- whether two areas are the same
abbrev pub same_area : Record → Record → Bool
same_area a b = (nat_eq a.span.lo b.span.lo && nat_eq a.span.hi b.span.hi) && (same_attr a.attr b.attr && (nat_eq a.object b.object && nat_eq a.offset b.offset))

-- this old area goes, if there is one
abbrev pub detaching : Option Record → List Change
detaching None = []
detaching (Some old) = Detach old ∷ []

-- the new area takes the place of the old one that has some of its pages, or is added where there is none
abbrev pub replacing : Option Record → Record → List Change
replacing None new = Add new ∷ []
replacing (Some old) new = if same_area old new then [] else Alter old new ∷ []

-- what is planned for the area that is being made, if there is one, where nothing more joins it
abbrev pub closing : Option Merging → List Change
closing None = []
closing (Some merging) = replacing merging.replaces merging.area

-- the pending old area, where a part begins below its end
abbrev pub taken : Option Record → Record → Option Record
taken None part = None
taken (Some old) part = if nat_lt part.span.lo old.span.hi then Some old else None

-- and where it does not
abbrev pub left : Option Record → Record → Option Record
left None part = None
left (Some old) part = if nat_lt part.span.lo old.span.hi then None else Some old

-- an old area that is left over, since the area that is being made takes the place of another already
abbrev pub spare : Option Record → Option Record → Option Record
spare None old = None
spare (Some partner) old = old

-- the pending old area, where it begins below the end of a new one
abbrev pub covered : Option Record → Record → Option Record
covered None new = None
covered (Some old) new = if nat_lt old.span.lo new.span.hi then Some old else None

-- the pending old area that a new one leaves over, which has an old area already or ends below it
abbrev pub left_over : Option Record → Option Record → Record → Option Record
left_over (Some partner) pending new = pending
left_over None None new = None
left_over None (Some old) new = if nat_lt old.span.lo new.span.hi then None else Some old

-- the area that is being made, where no more parts of the pending old area come: it takes the place of that, if it has its first page and no old area yet
abbrev pub merging_behind : Option Record → Option Merging → Option Merging
merging_behind pending None = None
merging_behind pending (Some merging) = Some (record { replaces = option_or merging.replaces (covered pending merging.area); area = merging.area })

-- the old area that goes then
abbrev pub unsettled : Option Record → Option Merging → Option Record
unsettled pending None = pending
unsettled pending (Some merging) = left_over merging.replaces pending merging.area

-- the area that is being made after a part: it goes on where the part joins, with the pending old area if it has none yet, and else another begins
abbrev pub merging_with : Option Record → Option Merging → Record → Merging
merging_with pending None part = record { replaces = taken pending part; area = part }
merging_with pending (Some merging) part = if joins merging.area part then record { replaces = option_or merging.replaces (taken pending part); area = joined_area merging.area part } else record { replaces = taken pending part; area = part }

-- what is planned then: an old area goes where its part joins an area that takes the place of another, and the area is done where the part does not join
abbrev pub planned_with : Option Record → Option Merging → Record → List Change
planned_with pending None part = []
planned_with pending (Some merging) part = if joins merging.area part then detaching (spare merging.replaces (taken pending part)) else replacing merging.replaces merging.area

-- what is planned for what comes, with this old area pending and this area being made
abbrev pub along : Option Record → Option Merging → List Event → List Change
along pending merging [] = detaching (unsettled pending merging) ++ closing (merging_behind pending merging)
along pending merging (Event.Begins area ∷ events) = detaching (unsettled pending merging) ++ along (Some area) (merging_behind pending merging) events
along pending merging (Event.Comes part ∷ events) = planned_with pending merging part ++ along (left pending part) (Some (merging_with pending merging part)) events
along pending merging (Event.Passed area ∷ events) = (detaching (unsettled pending merging) ++ closing (merging_behind pending merging)) ++ along None None events

-- the new area in its place among what comes
abbrev pub come_in : Record → List Event → List Event
come_in new [] = Event.Comes new ∷ []
come_in new (event ∷ events) = if nat_lt new.span.lo (page_at event) then Event.Comes new ∷ (event ∷ events) else event ∷ come_in new events

-- and the same where there may be none
abbrev pub come : Option Record → List Event → List Event
come None events = events
come (Some new) events = come_in new events

-- what a planner still plans
abbrev pub planned : Planner → List Event → List Change
planned planner events = along planner.pending planner.merging (come planner.coming events)

-- the planner after a part
abbrev pub laid : Planner → Record → Planner
laid planner part = record { coming = planner.coming; pending = left planner.pending part; merging = Some (merging_with planner.pending planner.merging part) }

-- the planner where it reaches a page: the new area is laid if it begins below that
abbrev pub reached_with : Option Record → Planner → ℕ → Planner
reached_with None planner page = planner
reached_with (Some new) planner page = if nat_lt new.span.lo page then laid (record planner { coming = None }) new else planner

-- and with the new area that is to come, if there is one
abbrev pub reached : Planner → ℕ → Planner
reached planner page = reached_with planner.coming planner page

-- what is planned then
abbrev pub reaching_with : Option Record → Planner → ℕ → List Change
reaching_with None planner page = []
reaching_with (Some new) planner page = if nat_lt new.span.lo page then planned_with planner.pending planner.merging new else []

-- and with the new area that is to come, if there is one
abbrev pub reaching : Planner → ℕ → List Change
reaching planner page = reaching_with planner.coming planner page

-- for how many areas a planner may still plan a change
abbrev pub changes_left : Planner → ℕ
changes_left planner = option_len planner.coming + (option_len planner.pending + option_len planner.merging)

-- at most how many changes are planned for what comes
abbrev pub weight : List Event → ℕ
weight [] = 0
weight (Event.Begins area ∷ events) = 1 + weight events
weight (Event.Comes part ∷ events) = 1 + weight events
weight (Event.Passed area ∷ events) = weight events

-- the planner goes along these: what it plans then and later is what it would have planned for these and what comes later
pub record GoesAlong (events : List Event) (planner next : Planner) (old new : PlanView) : Type 0 where
  pub planned : (later : List Event) → new.changes ++ planned next later ≡ old.changes ++ planned planner (events ++ later)
  pub within : length new.changes + changes_left next ≤ length old.changes + (changes_left planner + weight events)
  pub room : new.room ≡ old.room
  pub coming : (next.coming ≡ None) ⊎ (next.coming ≡ planner.coming)

-- what an area brings: it is passed over where it is not near a span whose pages change
unfoldable pub events_at : Becoming → Record → List Event
events_at becoming area = if is_near_either (lower_span becoming) (upper_span becoming) area
    then Event.Begins area ∷ map Event.Comes (parts_left becoming area)
    else Event.Passed area ∷ []

-- what a list brings
abbrev pub events_along : Becoming → List Record → List Event
events_along becoming areas = flat_map (events_at becoming) areas

-- all that is planned for a list, with at most one new area
abbrev pub all_planned : Becoming → Option Record → List Record → List Change
all_planned becoming new areas = along None None (come new (events_along becoming areas))
