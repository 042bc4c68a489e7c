-- The proof of `count_rounds`: what its loop keeps.
use Rattle.std.proofs.Common.{ℕ, ◌<◌, ◌≤◌, get_or}
use Rattle.std.specs.Prelude.{All}
use Rattle.vma_drive.proofs.rounds.count_rounds.Given as goal

abbrev pub invariant-loop-round : goal.invariant-loop-round
invariant-loop-round l = record {
  above : (k d : ℕ) → k < l.round-index → get_or l.fn.rounds k d < l.count;
  least : (bound : ℕ) → All (λ round. round < bound) l.fn.rounds → l.count ≤ bound;
}
