-- For `pack`: the items up to a place are packed.
use Rattle.std.proofs.Common.{length, ◌-◌, ◌≡◌}
use Rattle.node_slots.specs.Seats.{writer_state, free_of, retired_rows}
use Rattle.maple_write.specs.Tables.{FillsRows}
use Rattle.maple_write.proofs.Packing.{Packed}
use Rattle.maple_write.proofs.rows.pack.Given as goal

abbrev pub invariant-loop-place : goal.invariant-loop-place
invariant-loop-place l = record {
  same : FillsRows l.fn.writer l.writer;
  packs : Packed (writer_state l.fn.writer).words (writer_state l.writer).words (free_of l.fn.writer) (free_of l.writer) l.leaf l.start l.begin l.place l.items l.packed.items;
  left : retired_rows l.writer ≡ retired_rows l.fn.writer;
}

abbrev pub decreases-loop-place : goal.decreases-loop-place
decreases-loop-place l = length l.items - l.place
