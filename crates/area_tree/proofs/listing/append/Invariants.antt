-- For `append`: the list and the areas that end above the page are all areas, the room stays, and each area was read in few rows.
use Rattle.std.proofs.Common.{◌≡◌, ◌≤◌, ◌+◌, ◌*◌, ◌++◌, length, map}
use Rattle.std.specs.Vec.{vec_capacity}
use Rattle.area_tree.specs.AreaTrees.{areas_shown, shown_at}
use Rattle.area_tree.proofs.Above.{after}
use Rattle.area_tree.proofs.listing.append.Given as goal

abbrev pub invariant-loop-area : goal.invariant-loop-area
invariant-loop-area l = record {
  listed : l.list.items ++ after l.page (areas_shown (map (shown_at l.records) l.tree.pairs)) ≡ areas_shown (map (shown_at l.records) l.tree.pairs);
  room : vec_capacity l.list ≡ vec_capacity l.fn.list;
  cost : l.reads ≤ l.fn.reads + 30 * length l.list.items;
}

abbrev pub decreases-loop-area : goal.decreases-loop-area
decreases-loop-area l = length (after l.page (areas_shown (map (shown_at l.records) l.tree.pairs)))
