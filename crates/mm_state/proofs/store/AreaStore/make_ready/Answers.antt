-- For `AreaStore::make_ready`: the tree is prepared, and where enough is free it is scanned once.
use Rattle.std.proofs.Common.{ℕ, ◌<◌, ◌+◌, ◌++◌, ◌∙◌, List, All, refl, length, ap, subst, arith}
use Rattle.area_tree.specs.AreaTrees.{AreaTreeView}
use Rattle.mm_state.proofs.Scanning.{readied, scans_together, gone_more}
use Rattle.mm_state.proofs.store.AreaStore.make_ready.Goals as goal

pub returns-clause-ready : goal.returns-clause-ready
returns-clause-ready g c =
    let old = c.args.self.now in
    let prepared = c.prepare.new.self in
    let told = c.prepare.ensures in
    let waited = c.wait_for_slots.ensures in
    let adds = c.count_adds-adds.ensures in
    record {
      table = refl;
      writer = refl;
      moved = refl;
      areas = readied old.areas prepared c.wait_for_slots.new.areas _ told.same waited.areas;
      slots = waited.slots;
      free = omega (arith, waited.free, adds);
      scans = (
        told.scans.0,
        waited.scans.0,
        waited.scans.1 ∙ ap (λ (l : List ℕ). l ++ waited.scans.0) told.scans.1.found,
        told.scans.1.few,
        subst (λ n. All (λ free. free < n) waited.scans.0) adds waited.scans.2,
        scans_together old.areas.tree.scans prepared.tree.scans c.wait_for_slots.new.areas.tree.scans (length old.areas.tree.pins) (length prepared.tree.pins)
            (length told.scans.0) (length waited.scans.0) told.scans.1.looks waited.scans.3 told.readers,
      );
      once = λ rows slots.
          let more = gone_more old.areas.tree.elapsed prepared.tree.elapsed told.elapsed old.slots.left in
          let still = waited.still (omega (arith, slots, more, adds)) in
          omega (arith, told.once rows, ap (λ (t : AreaTreeView). t.tree.scans) still);
    }
