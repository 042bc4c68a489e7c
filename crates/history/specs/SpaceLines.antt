-- The lines of one space of a trace: what each list of them keeps.
use Rattle.std.specs.Prelude.{ℕ, ◌≤◌, List, length, All, filter, nat_eq}
use Rattle.trace_reader.specs.declared.limits.TheConstants.{MOST_LINES}
use Rattle.trace_reader.specs.declared.trace.TraceLine.{TraceLine}
use Rattle.trace_reader.specs.Values.{AreNumbered, AreNamesRight, IsLineValue, IsOfParent}
use Rattle.history.specs.declared.space_lines.Held.{Held}
use Rattle.history.specs.declared.space_lines.Held.TheVariants as held

-- the lines of a child, in order
abbrev pub child_lines : List TraceLine → ℕ → List TraceLine
child_lines lines child = filter (λ line. nat_eq line.thread child) lines

-- At most 1,000,000 lines, whose numbers fit and rise. Each that names a line names an earlier call of another thread among them. None is of a
-- thread that one of them forks, so that they are of one space.
pub record AreSpaceLines (lines : List TraceLine) : Type 0 where
  pub few : length lines ≤ MOST_LINES
  pub values : All IsLineValue lines
  pub numbered : AreNumbered lines
  pub named : AreNamesRight lines
  pub apart : All (λ line. IsOfParent lines line.thread) lines

-- the lines that are held: all of a trace, or a list of some
abbrev pub held_lines : Held → List TraceLine
held_lines (held.Whole lines) = lines.now
held_lines (held.Part lines) = lines.items
