-- For `item_word`: the places before this one do not have the page.
use Rattle.std.proofs.Common.{◌-◌}
use Rattle.node_slots.specs.Seats.{IsOfNodeTable, node_view}
use Rattle.maple_read.proofs.Reading.{Passed}
use Rattle.maple_read.proofs.walking.item_word.Given as goal

abbrev pub invariant-loop-place : goal.invariant-loop-place
invariant-loop-place l = record {
  table : IsOfNodeTable l.seat l.fn.nodes;
  passed : Passed (node_view l.fn.seat) (node_view l.seat) l.fn.leaf l.fn.page.0 l.fn.row.0 l.place;
}

abbrev pub decreases-loop-place : goal.decreases-loop-place
decreases-loop-place l = 32 - l.place
