-- For `AreaStore::detach_all`: the slots of the areas that the later changes take away were let go.
use Rattle.std.proofs.Common.{◌≤◌, length, drop}
use Rattle.mm_state.proofs.LettingGo.{IsLettingGo}
use Rattle.mm_state.proofs.store.AreaStore.detach_all.Given as goal

abbrev pub invariant-loop-left : goal.invariant-loop-left
invariant-loop-left g l = record {
  within : l.left ≤ length l.changes;
  going : IsLettingGo l.fn.self l.self (drop l.left l.changes) l.tree;
}

abbrev pub decreases-loop-left : goal.decreases-loop-left
decreases-loop-left g l = l.left
