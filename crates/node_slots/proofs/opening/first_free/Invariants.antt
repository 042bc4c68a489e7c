-- For `first_free`: the list has the rows so far.
use Rattle.std.proofs.Common.{◌≤◌}
use Rattle.std.specs.VecDeque.{deque_capacity}
use Rattle.node_slots.specs.Opening.{IsFreeFrom}
use Rattle.node_slots.specs.Kept.{free_numbers, FallsFrom}
use Rattle.node_slots.proofs.opening.first_free.Given as goal

abbrev pub invariant-loop-row : goal.invariant-loop-row
invariant-loop-row l = record {
  room : l.fn.count ≤ deque_capacity l.free;
  rows : IsFreeFrom 1 l.row (free_numbers l.free.items);
  some : 1 ≤ l.row;
  order : FallsFrom l.row (free_numbers l.free.items);
}
