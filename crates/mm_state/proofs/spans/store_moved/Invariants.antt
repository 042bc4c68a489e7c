-- For `store_moved`: what is left can be stored, and with it the tree shows the same areas in the end.
use Rattle.std.proofs.Common.{◌≡◌, ◌++◌, vec_len, vec_capacity}
use Rattle.std.specs.List.Sorted.{IsPermutation}
use Rattle.area_tree.specs.AreaTrees.{shown_of}
use Rattle.mm_state.specs.Internal.AreaStores.{CanStore, HasSameAreaTree}
use Rattle.mm_state.proofs.spans.store_moved.Given as goal

abbrev pub invariant-loop-shown : goal.invariant-loop-shown
invariant-loop-shown l = record {
  can : CanStore l.areas l.moved.items;
  shown : IsPermutation (shown_of l.fn.areas ++ l.fn.moved.items) (shown_of l.areas ++ l.moved.items);
  room : vec_capacity l.moved ≡ vec_capacity l.fn.moved;
  same : HasSameAreaTree l.fn.areas l.areas;
}

abbrev pub decreases-loop-shown : goal.decreases-loop-shown
decreases-loop-shown l = vec_len l.moved
