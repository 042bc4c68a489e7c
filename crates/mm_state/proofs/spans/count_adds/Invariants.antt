-- For `count_adds`: the changes so far.
use Rattle.std.proofs.Common.{◌≡◌, ◌≤◌, take}
use Rattle.mm_state.specs.Internal.AreaStores.{adds_of}
use Rattle.mm_state.proofs.spans.count_adds.Given as goal

abbrev pub invariant-loop-change : goal.invariant-loop-change
invariant-loop-change l = record {
  few : l.adds ≤ l.change-index;
  sum : l.adds ≡ adds_of (take l.change-index l.changes);
}
