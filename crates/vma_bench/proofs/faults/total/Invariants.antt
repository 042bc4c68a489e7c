-- For `total`: the sum so far.
use Rattle.std.proofs.Common.{◌≡◌, take, sum}
use Rattle.vma_bench.proofs.faults.total.Given as goal

abbrev pub invariant-loop-count : goal.invariant-loop-count
invariant-loop-count l = l.total ≡ sum (take l.count-index l.operations)
