-- What the loop of `times` keeps: the count so far.
use Rattle.std.proofs.Common.{◌≡◌, take}
use Rattle.grace_core.specs.Core.{times, numbers_of}
use Rattle.grace_core.proofs.writer_state.times.Given as goal

abbrev pub invariant-loop-other : goal.invariant-loop-other
invariant-loop-other l = l.times ≡ times l.row.0 (numbers_of (take l.other-index l.rows))
