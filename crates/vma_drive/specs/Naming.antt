-- Lines that name lines which they come after.
use Rattle.std.specs.Prelude.{ℕ, ◌≡◌, Bool, false, nat_eq, List, slice_get, find, option_and_then, Option, Some, count_by}
use Rattle.std.specs.Option.{option_map_or}
use Rattle.trace_reader.specs.declared.trace.TraceLine.{TraceLine}
use Rattle.history.specs.Histories.{caller_of}

-- the line at this place has this number
abbrev pub HasNumber : List TraceLine → ℕ → ℕ → Type 0
HasNumber lines number place = (line : TraceLine) × (slice_get lines place ≡ Some line) × (line.number ≡ number)

-- the line at a place names the line at another
pub record NamesAt (lines : List TraceLine) (place said : ℕ) : Type 0 where
  pub line : TraceLine
  pub other : TraceLine
  pub stands : slice_get lines place ≡ Some line
  pub there : slice_get lines said ≡ Some other
  pub after : line.after ≡ Some other.number

-- the line that a line names, if it names one
abbrev pub named_by : List TraceLine → TraceLine → Option TraceLine
named_by lines line = option_and_then (λ number. find (λ other. nat_eq other.number number) lines) line.after

-- whether a line names a line of this caller
abbrev pub names_caller : List TraceLine → ℕ → TraceLine → Bool
names_caller lines caller line = option_map_or (λ other. nat_eq (caller_of lines other.thread) caller) (named_by lines line) false

-- how often lines name a line of this caller
abbrev pub tells : List TraceLine → ℕ → ℕ
tells lines caller = count_by (names_caller lines caller) lines
