-- For `leave_block`: the nodes up to a page were left.
use Rattle.std.proofs.Common.{◌-◌, ◌≡◌, ◌≤◌, ◌+◌, ℕ, length}
use Rattle.maple_node.specs.Levels.{times_among}
use Rattle.node_slots.specs.Seats.{StaysAt, node_sight, free_of, is_waiting}
use Rattle.maple_write.specs.Internal.Tables.{table_at, rows_between, gone}
use Rattle.maple_write.specs.Internal.Stores.{old_level}
use Rattle.maple_write.proofs.level.leave_block.Given as goal

abbrev pub invariant-loop-page : goal.invariant-loop-page
invariant-loop-page l = record {
  table : StaysAt l.fn.writer l.writer;
  view : node_sight l.writer ≡ node_sight l.fn.writer;
  free : length (free_of l.fn.writer) ≤ length (free_of l.writer);
  waits : (row : ℕ) → is_waiting l.writer row ≡ is_waiting l.fn.writer row;
  gone_are : (row : ℕ) → gone (table_at l.writer) row
      + times_among row (rows_between l.page l.span.hi (old_level (table_at l.fn.writer) l.descent.tree l.level))
      ≡ gone (table_at l.fn.writer) row
      + times_among row (rows_between l.span.lo l.span.hi (old_level (table_at l.fn.writer) l.descent.tree l.level));
}

abbrev pub decreases-loop-page : goal.decreases-loop-page
decreases-loop-page l = l.span.hi - l.page
