-- For `callers_by_thread`: the callers of the threads so far.
use Rattle.std.proofs.Common.{ℕ, ◌≡◌, ◌<◌, length, slice_index}
use Rattle.history.specs.Threads.{busy_below}
use Rattle.history.proofs.callers.callers_by_thread.Given as goal

abbrev pub invariant-loop-thread : goal.invariant-loop-thread
invariant-loop-thread l = (length l.callers ≡ 64) × ((thread : ℕ) → thread < l.thread → slice_index l.callers thread ≡ busy_below thread l.counts)
