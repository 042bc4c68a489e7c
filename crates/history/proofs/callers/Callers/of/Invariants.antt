-- For `Callers::of`: the lines so far are counted.
use Rattle.std.proofs.Common.{◌≡◌, take}
use Rattle.history.specs.Threads.{counts_below}
use Rattle.history.proofs.callers.Callers.of.Given as goal

abbrev pub invariant-loop-line : goal.invariant-loop-line
invariant-loop-line l = l.counts ≡ counts_below 64 (take l.line-index l.lines)
