-- For `logs_behind`: the logs so far, with versions counted from behind.
use Rattle.std.proofs.Common.{◌≡◌, map, take}
use Rattle.mm_fork.specs.Behind.{log_behind}
use Rattle.mm_fork.proofs.histories.logs_behind.Given as goal

abbrev pub invariant-loop-log : goal.invariant-loop-log
invariant-loop-log l = map (λ log. log.items) l.behind.items ≡ map (log_behind l.version) (map (λ log. log.items) (take l.log-index l.logs))
