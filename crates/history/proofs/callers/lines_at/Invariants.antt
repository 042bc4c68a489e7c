-- For `lines_at`: the threads so far with a line are at most the caller.
use Rattle.std.proofs.Common.{◌≡◌, ◌≤◌, count_by, nat_lt, take}
use Rattle.history.proofs.callers.lines_at.Given as goal

abbrev pub invariant-loop-count : goal.invariant-loop-count
invariant-loop-count l = record {
  counted : l.before ≡ count_by (λ count. nat_lt 0 count) (take l.count-index l.counts);
  low : l.before ≤ l.caller;
}
