-- For `push_log`: the items of the reads so far are appended.
use Rattle.std.proofs.Common.{◌≡◌, ◌++◌, take}
use Rattle.history.specs.Runs.{log_items}
use Rattle.history.proofs.gathering.push_log.Given as goal

abbrev pub invariant-loop-read : goal.invariant-loop-read
invariant-loop-read l = l.items.items ≡ l.initial.items.items ++ log_items l.caller (take l.read-index l.log)
