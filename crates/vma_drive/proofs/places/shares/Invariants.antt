-- The proof of `shares`: what its loop keeps.
use Rattle.std.proofs.Common.{ℕ, ◌≡◌, ◌<◌, ◌+◌, length, vec_len, get_or}
use Rattle.history.specs.Histories.{lines_of}
use Rattle.vma_drive.specs.Naming.{tells}
use Rattle.vma_drive.proofs.places.shares.Given as goal

-- the first callers have their operations
abbrev pub invariant-loop-caller : goal.invariant-loop-caller
invariant-loop-caller l = record {
  count : vec_len l.operations ≡ l.caller;
  each : (k : ℕ) → k < l.caller → get_or l.operations.items k 0 ≡ length (lines_of l.fn.lines k) + tells l.fn.lines k;
}
