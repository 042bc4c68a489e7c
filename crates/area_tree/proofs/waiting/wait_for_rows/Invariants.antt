-- For `wait_for_rows`: there were only scans, of which each found too few.
use Rattle.std.proofs.Common.{ℕ, ◌≡◌, ◌<◌, ◌≤◌, ◌+◌, ◌*◌, ◌++◌, ◌∷◌, [], List, length, All}
use Rattle.node_slots.specs.Seats.{WritesNodeTable, node_sight, free_of, pins_of}
use Rattle.area_tree.specs.Rows.{Scans}
use Rattle.area_tree.proofs.waiting.wait_for_rows.Given as goal

abbrev pub invariant-loop : goal.invariant-loop
invariant-loop g l = record {
  table : WritesNodeTable l.writer l.fn.nodes;
  scans : Scans l.fn.writer l.writer;
  tries : (tries : List ℕ) × (l.tally ++ length (free_of l.writer) ∷ [] ≡ l.fn.tally ++ length (free_of l.fn.writer) ∷ tries) × All (λ free. free < l.fn.rows) tries
      × ((node_sight l.writer).scans ≡ (node_sight l.fn.writer).scans + length tries * length (pins_of l.fn.writer));
  more : length (free_of l.fn.writer) ≤ length (free_of l.writer);
  first : l.fn.rows ≤ length (free_of l.fn.writer) → (node_sight l.writer).scans ≡ (node_sight l.fn.writer).scans;
}
