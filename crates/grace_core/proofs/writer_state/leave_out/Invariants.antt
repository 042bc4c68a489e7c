-- What the loop of `leave_out` keeps: the numbers so far are the new ones, and the others are as they were.
use Rattle.std.proofs.Common.{ℕ, ◌≡◌, ◌<◌, ◌≤◌}
use Rattle.grace_core.specs.Core.{since_at}
use Rattle.grace_core.specs.Steps.{since_from}
use Rattle.grace_core.proofs.writer_state.leave_out.Given as goal

abbrev pub invariant-loop-place : goal.invariant-loop-place
invariant-loop-place l = record {
  new : (k : ℕ) → k < l.place → since_at l.since k ≡ since_at (since_from 0 l.old l.new l.initial.since) k;
  old : (k : ℕ) → l.place ≤ k → since_at l.since k ≡ since_at l.initial.since k;
}
