-- For `merged_log`: the entries up to a version and the reads so far are in order.
use Rattle.std.proofs.Common.{take, drop}
use Rattle.history.specs.Runs.{log_items}
use Rattle.history.proofs.Merging.{Merged}
use Rattle.history.proofs.gathering.merged_log.Given as goal

abbrev pub invariant-loop-read : goal.invariant-loop-read
invariant-loop-read l = Merged l.journal (log_items 0 (take l.read-index l.log)) (log_items 0 (drop l.read-index l.log)) l.items.items l.next
