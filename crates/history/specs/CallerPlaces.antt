-- The lines of each caller of a trace, as places among all its lines.
use Rattle.std.specs.Prelude.{ℕ, ◌≡◌, ◌≤◌, max, List, [], map, length, slice_get, Some, Vec}
use Rattle.std.specs.declared.alloc.Global.{Global}
use Rattle.trace_reader.specs.declared.trace.TraceLine.{TraceLine}
use Rattle.history.specs.declared.callers.TheConstants.{MOST_THREADS}
use Rattle.history.specs.Histories.{caller_of, lines_of}

-- how many callers run the lines of a trace: as many as threads have a line, and one where none has
abbrev pub callers_of : List TraceLine → ℕ
callers_of lines = max 1 (caller_of lines MOST_THREADS)

-- these lines stand at these places of the trace
abbrev pub StandAt : List TraceLine → List ℕ → List TraceLine → Type 0
StandAt lines places own = map (slice_get lines) places ≡ map Some own

-- for each of so many callers its places, at which its lines stand, in order; no other caller has a line
pub record ArePlaces (lines : List TraceLine) (callers : ℕ) (places : List (Vec ℕ Global)) : Type 0 where
  pub all : length places ≡ callers
  pub stand : (caller : ℕ) (own : Vec ℕ Global) → slice_get places caller ≡ Some own → StandAt lines own.items (lines_of lines caller)
  pub no_lines : (caller : ℕ) → callers ≤ caller → lines_of lines caller ≡ []
