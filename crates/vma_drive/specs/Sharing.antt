-- How the lines of a trace are shared out among the callers of a space.
use Rattle.std.specs.Prelude.{ℕ, ◌≡◌, ◌≤◌, ◌<◌, ◌+◌, List, length, slice_get, slice_index, All, None, Some}
use Rattle.trace_reader.specs.declared.trace.TraceLine.{TraceLine}
use Rattle.history.specs.CallerPlaces.{callers_of}
use Rattle.history.specs.Histories.{lines_of}
use Rattle.fault_path.specs.Passes.{PassView}
use Rattle.vma_drive.specs.Naming.{tells}

-- there are just these callers, and each may make as many operations as it has lines, and tell as often as its lines are named
pub record AreShares (lines : List TraceLine) (operations : List ℕ) : Type 0 where
  pub all : length operations ≡ callers_of lines
  pub each : (caller : ℕ) → caller < callers_of lines → slice_index operations caller ≡ length (lines_of lines caller) + tells lines caller

-- there is a pass for each caller, which has operations left for its lines, and to tell as often as its lines are named
pub record AreEnough (lines : List TraceLine) (passes : List PassView) : Type 0 where
  pub all : length passes ≡ callers_of lines
  pub each : (caller : ℕ) (pass : PassView) → slice_get passes caller ≡ Some pass
      → length (lines_of lines caller) + tells lines caller ≤ pass.left

-- no line names a line that it comes after
abbrev pub NameNoLine : List TraceLine → Type 0
NameNoLine lines = All (λ line. line.after ≡ None) lines

-- all lines are of one thread
abbrev pub AreOfOneThread : List TraceLine → Type 0
AreOfOneThread lines = (thread : ℕ) × All (λ line. line.thread ≡ thread) lines
