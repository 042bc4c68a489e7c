-- For `query`: what its loop keeps.
use Rattle.std.proofs.Common.{◌≡◌, ℕ, ◌+◌, ◌*◌, ◌^◌, ◌≤◌, length, max}
use Rattle.maps_read.proofs.Searching.{EndsWithin, EndsAbove}
use Rattle.maps_read.proofs.querying.query.Given as goal

-- The lines before `first` end at or below the address, those from `first + size` on above it, and each step halved `size`.
abbrev pub invariant-loop-size : goal.invariant-loop-size
invariant-loop-size g l = record {
  within : l.first + l.size ≤ length l.maps;
  below : EndsWithin l.address l.first l.maps;
  above : EndsAbove l.address (l.first + l.size) l.maps;
  steps : (count : ℕ) × (l.steps ≡ l.fn.steps + count) × (2 ^ count * max (2 * l.size) 1 ≤ 2 * length l.maps + 1);
}

abbrev pub decreases-loop-size : goal.decreases-loop-size
decreases-loop-size g l = l.size
