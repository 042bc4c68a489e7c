-- For `AreaStore::change_all`: the later changes were carried out.
use Rattle.std.proofs.Common.{◌≤◌, length, drop}
use Rattle.mm_state.specs.Internal.AreaStores.{IsChanging}
use Rattle.mm_state.proofs.store.AreaStore.change_all.Given as goal

abbrev pub invariant-loop-left : goal.invariant-loop-left
invariant-loop-left g l = record {
  within : l.left ≤ length l.changes;
  changing : IsChanging l.fn.self l.self (drop l.left l.changes) l.tree;
}

abbrev pub decreases-loop-left : goal.decreases-loop-left
decreases-loop-left g l = l.left
