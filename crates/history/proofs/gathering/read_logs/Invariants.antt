-- For `read_logs`: the items of the logs so far.
use Rattle.std.proofs.Common.{◌≡◌, map, take}
use Rattle.history.specs.Runs.{logs_items}
use Rattle.history.proofs.gathering.read_logs.Given as goal

abbrev pub invariant-loop-caller : goal.invariant-loop-caller
invariant-loop-caller l = l.items.items ≡ logs_items 0 (map (λ log. log.items) (take l.caller l.logs))
