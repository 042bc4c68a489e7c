-- The proof of `are_numbered`: the numbers of the lines so far rise.
use Rattle.std.proofs.Common.{ℕ, ◌<◌, ◌≤◌, get_or}
use Rattle.trace_reader.specs.declared.trace.TraceLine.{TraceLine}
use Rattle.history.proofs.numbered.are_numbered.Given as goal

abbrev pub invariant-loop-place : goal.invariant-loop-place
invariant-loop-place l = (i j : ℕ) (d : TraceLine) → i < j → j < l.place → (get_or l.lines i d).number < (get_or l.lines j d).number
