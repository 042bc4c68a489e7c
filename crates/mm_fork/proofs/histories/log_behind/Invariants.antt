-- For `log_behind`: the reads so far, with versions counted from behind.
use Rattle.std.proofs.Common.{◌≡◌, take}
use Rattle.mm_fork.specs.Behind.{log_behind}
use Rattle.mm_fork.proofs.histories.log_behind.Given as goal

abbrev pub invariant-loop-read : goal.invariant-loop-read
invariant-loop-read l = l.behind.items ≡ log_behind l.version (take l.read-index l.log)
