-- What was taken, as the definition has it, and what holds of it.
use Rattle.std.specs.Prelude.{ℕ, ◌≡◌, ◌+◌, ◌<◌, ◌≤◌, Bool, Option, Some, None, length, map, nat_eq, nat_lt, All, if◌then◌else◌}
use Rattle.mm_types.specs.declared.area.Record.{Record}
use Rattle.mm_types.specs.declared.config.TheConstants.{MOST_FILES}
use Rattle.mm_types.specs.Records.{IsValid}
use Rattle.maps_read.specs.declared.maps.MapsLine.{MapsLine}
use Rattle.maps_read.specs.declared.taking.Taken as code
use Rattle.maps_read.specs.FileLines.{first_line_of_file}
use Rattle.maps_read.specs.Retracing.{Taken, may_map}

-- what was taken, without where its lines lie in memory
abbrev pub what_taken : code.Taken → Taken
what_taken taken = record { named = map (λ line. line.now) taken.named.items; opened = taken.opened.items; areas = taken.areas.items }

-- an area that a line of a trace maps: it is valid, does not begin at address 0, and is of none of too many objects
pub record IsPrinted (area : Record) : Type 0 where
  pub valid : IsValid area
  pub above : 0 < area.span.lo
  pub object : area.object ≤ MOST_FILES

-- at most 1,024 lines show a file first, each opens one, and each area is one that a line of a trace maps
pub record AreLinesTaken (taken : Taken) : Type 0 where
  pub few : length taken.named ≤ MOST_FILES
  pub both : length taken.opened ≡ length taken.named
  pub one : All (λ files. length files ≡ 1) taken.opened
  pub areas : All IsPrinted taken.areas

-- whether memory may be taken for a line that has a name: where its file is one of those so far the line may be mapped, and else there is
-- room for one file more
abbrev pub may_take_at : Taken → Option ℕ → MapsLine → Bool
may_take_at taken (Some place) line = may_map taken.areas (place + 1) line
may_take_at taken None line = nat_lt (length taken.named) MOST_FILES

-- whether memory may be taken for a line: a line without a name may be mapped
abbrev pub may_take : Taken → MapsLine → Bool
may_take taken line = if nat_eq (length line.name) 0 then may_map taken.areas 0 line else may_take_at taken (first_line_of_file taken.named line) line
