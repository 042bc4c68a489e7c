-- For `wait_for_slots`: only what has elapsed rises, and slots are freed, of which there are too few, and were before any scan.
use Rattle.std.proofs.Common.{ℕ, ◌≡◌, ◌≤◌, ◌<◌, ◌+◌, ◌*◌, ◌++◌, List, length, All}
use Rattle.area_slots.specs.Slots.{gone_by}
use Rattle.mm_state.specs.Internal.AreaStores.{CanFree, IsFreed, IsAreaTreeScanned}
use Rattle.mm_state.proofs.spans.wait_for_slots.Given as goal

abbrev pub invariant-loop : goal.invariant-loop
invariant-loop g l = record {
  can : CanFree l.areas l.slots l.wanted;
  areas : IsAreaTreeScanned l.fn.areas l.areas;
  elapsed : l.fn.areas.tree.elapsed ≤ l.areas.tree.elapsed;
  slots : IsFreed l.areas.tree.elapsed l.fn.slots l.slots;
  few : length l.slots.free < l.wanted;
  short : length l.fn.slots.free + length (gone_by l.fn.areas.tree.elapsed l.fn.slots.left) < l.wanted;
  rounds : (rounds : List ℕ) × (l.areas.tree.found ≡ l.fn.areas.tree.found ++ rounds) × All (λ free. free < l.wanted) rounds
      × (l.areas.tree.scans ≡ l.fn.areas.tree.scans + length rounds * length l.fn.areas.tree.pins);
  readers : length l.areas.tree.pins ≡ length l.fn.areas.tree.pins;
}
