-- The proof of `lefts`: what its loop keeps.
use Rattle.std.proofs.Common.{ℕ, ◌≡◌, ◌<◌, length, get_or}
use Rattle.fault_path.specs.Passes.{PassView}
use Rattle.vma_drive.proofs.driving.lefts.Given as goal

abbrev pub invariant-loop-pass : goal.invariant-loop-pass
invariant-loop-pass l = record {
  count : length l.owed.items ≡ l.pass-index;
  each : (k : ℕ) (d : PassView) → k < l.pass-index → get_or l.owed.items k 0 ≡ (get_or l.fn.passes k d).left;
}
