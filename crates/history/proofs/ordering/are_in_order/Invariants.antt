-- For `are_in_order`: the places so far do not fall, up to the last, which is no more than what bounds them.
use Rattle.std.proofs.Common.{ℕ, ◌≤◌, take, All}
use Rattle.mm_types.proofs.Sorting.{Rises}
use Rattle.history.specs.Runs.{place_key}
use Rattle.history.proofs.ordering.are_in_order.Given as goal

abbrev pub invariant-loop-item : goal.invariant-loop-item
invariant-loop-item l = record {
  rises : Rises place_key 0 (take l.item-index l.items);
  low : All (λ y. place_key y ≤ l.last) (take l.item-index l.items);
  reached : (bound : ℕ) → All (λ y. place_key y ≤ bound) (take l.item-index l.items) → l.last ≤ bound;
}
