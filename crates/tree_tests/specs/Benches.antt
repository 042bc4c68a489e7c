-- A table whose tree is stored into.
use Rattle.std.specs.Prelude.{ℕ, ◌≡◌}
use Rattle.node_slots.specs.declared.seats.NodeTable.{NodeTable}
use Rattle.node_slots.specs.declared.seats.NodeWriter.{NodeWriter}
use Rattle.node_slots.specs.declared.tree.Tree.{Tree}
use Rattle.node_slots.specs.Seats.{WritesNodeTable, node_sight, writer_state, row_count}
use Rattle.node_slots.specs.Built.{IsWriters}

-- The writer is of the table, which has 4,096 rows and as many slots, and shows this tree, or nothing was built yet. The present
-- tree has this number.
pub record IsBench (nodes : NodeTable) (writer : NodeWriter) (tree : Tree) (published : ℕ) : Type 0 where
  pub table : WritesNodeTable writer nodes
  pub shows : IsWriters writer tree
  pub rows : row_count writer ≡ 4096
  pub slots : (node_sight writer).size.slots ≡ 4096
  pub number : (writer_state writer).tree.number ≡ published
