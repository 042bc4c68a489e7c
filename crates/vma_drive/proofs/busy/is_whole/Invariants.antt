-- The proof of `is_whole`: what its loop keeps.
use Rattle.std.proofs.Common.{ℕ, ◌<◌}
use Rattle.vma_drive.specs.Internal.Rounds.{IsBusy}
use Rattle.vma_drive.proofs.busy.is_whole.Given as goal

-- the first callers have no line left
abbrev pub invariant-loop-caller : goal.invariant-loop-caller
invariant-loop-caller l = (caller : ℕ) → caller < l.caller → ¬ IsBusy l.fn.round.places.now l.fn.round.rounds.now l.fn.round.number l.fn.passes caller
