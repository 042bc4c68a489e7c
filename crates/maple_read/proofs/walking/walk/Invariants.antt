-- For `walk`: the row is that of the node that has the page, so many levels down.
use Rattle.node_slots.specs.Seats.{IsOfNodeTable, node_view}
use Rattle.maple_read.proofs.Loaded.{Walks}
use Rattle.maple_read.proofs.walking.walk.Given as goal

abbrev pub invariant-loop-depth : goal.invariant-loop-depth
invariant-loop-depth l = record {
  table : IsOfNodeTable l.seat l.fn.nodes;
  walks : Walks (node_view l.fn.seat) (node_view l.seat) l.fn.root l.fn.page.0 l._depth l.row.0;
}
