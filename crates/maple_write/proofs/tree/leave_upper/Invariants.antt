-- For `leave_upper`: the nodes of the levels up to one were left.
use Rattle.std.proofs.Common.{◌-◌, ◌≡◌, ◌≤◌, ◌+◌, ℕ, length}
use Rattle.maple_node.specs.Levels.{times_among}
use Rattle.node_slots.specs.Seats.{StaysAt, node_sight, free_of, is_waiting}
use Rattle.node_slots.specs.Built.{words_at}
use Rattle.maple_write.specs.Internal.Tables.{table_at, gone}
use Rattle.maple_write.specs.Internal.Stores.{upper_rows}
use Rattle.maple_write.proofs.tree.leave_upper.Given as goal

abbrev pub invariant-loop-next : goal.invariant-loop-next
invariant-loop-next l = record {
  order : l.state.level ≤ l.next;
  high : l.next ≤ l.state.descent.now.tree.height;
  table : StaysAt l.fn.writer l.writer;
  view : node_sight l.writer ≡ node_sight l.fn.writer;
  free : length (free_of l.fn.writer) ≤ length (free_of l.writer);
  waits : (row : ℕ) → is_waiting l.writer row ≡ is_waiting l.fn.writer row;
  gone_are : (row : ℕ) → gone (table_at l.writer) row
      + times_among row (upper_rows (words_at l.fn.writer) l.state.descent.now.tree l.next)
      ≡ gone (table_at l.fn.writer) row
      + times_among row (upper_rows (words_at l.fn.writer) l.state.descent.now.tree l.state.level);
}

abbrev pub decreases-loop-next : goal.decreases-loop-next
decreases-loop-next l = l.tree.height - l.next
