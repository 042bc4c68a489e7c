-- For `replace`: the levels below one are built.
use Rattle.std.proofs.Common.{◌-◌, ◌≡◌, ◌≤◌, ◌+◌, ◌*◌, true, false, length}
use Rattle.maple_node.specs.Nodes.{items_end}
use Rattle.maple_node.specs.Levels.{below}
use Rattle.maple_node.specs.Trees.{entries_of}
use Rattle.maple_node.specs.Splices.{ending_by, overwrite}
use Rattle.node_slots.specs.Seats.{free_of}
use Rattle.node_slots.specs.Built.{words_at}
use Rattle.maple_write.specs.Internal.Tables.{table_at}
use Rattle.maple_write.specs.Tables.{FillsRows}
use Rattle.maple_write.specs.Internal.Stores.{old_level, level_in, new_level, new_entries, tree_under, IsWriting}
use Rattle.maple_write.proofs.tree.replace.Given as goal

abbrev pub invariant-loop-state : goal.invariant-loop-state
invariant-loop-state l = record {
  same : FillsRows l.fn.writer l.writer;
  writing : IsWriting l.writer l.state;
  tree : l.state.descent.now.tree ≡ l.tree;
  entries : new_entries (table_at l.writer) (level_in l.state)
      ≡ overwrite l.fn.span.lo l.fn.span.hi l.fn.word (entries_of (words_at l.fn.writer) (tree_under l.tree));
  free : length (free_of l.fn.writer) ≤ length (free_of l.writer) + 3 * l.state.level;
  whole : l.done ≡ true → (1 ≤ l.state.level) × ((items_end 0 (ending_by l.state.lo (old_level (table_at l.writer) l.state.descent.now.tree l.state.level)) ≡ 0)
      × ((l.state.replacement.end ≡ l.tree.top.end) × (length l.state.replacement.items.items ≡ 1)));
  wide : 1 ≤ l.state.level → l.done ≡ false → 2 ≤ length (new_level (table_at l.writer) (level_in l.state));
  under : 2 ≤ l.state.level → 2 ≤ length (below (words_at l.writer) false (new_level (table_at l.writer) (level_in l.state)));
}

abbrev pub decreases-loop-state : goal.decreases-loop-state
decreases-loop-state l = l.tree.height - l.state.level
