-- For `AreaStore::alter`: the slot of an area of the tree shows another.
use Rattle.std.proofs.Common.{◌++◌, refl, sym, ◌∙◌, subst, append-nil, inl, inr, arith}
use Rattle.std.proofs.lemmas.Bool.{both_ways}
use Rattle.std.proofs.lemmas.List.Sums.{sum_by-append}
use Rattle.std.proofs.lemmas.List.Sorted.{IsPermutation-refl}
use Rattle.area_slots.specs.Slots.{one_at}
use Rattle.vma_lock.specs.Seats.{lock_sight, slots}
use Rattle.area_tree.specs.declared.shown.ShownArea.{ShownArea}
use Rattle.area_tree.specs.AreaTrees.{shown_of, areas_of}
use Rattle.mm_state.specs.Internal.AreaStores.{HasSameAreaTree, IsWritten}
use Rattle.mm_state.proofs.Splitting.{lost_meets, last_alone}
use Rattle.mm_state.proofs.Changing.{same_span, same_meets, end_meets, room_meets, old_pages, old_within}
use Rattle.mm_state.proofs.Hanging.{taken_in, at_most_once}
use Rattle.mm_state.proofs.store.AreaStore.alter.Goals as goal

pub write_slot-requires-clause-slot : goal.write_slot-requires-clause-slot
write_slot-requires-clause-slot g c =
    let store = c.args.self.now in
    omega (
      arith,
      (taken_in (slots store.writer) (shown_of store.areas) store.moved.items store.slots _ c.requires.can.hangs c.slot_of-slot.ensures).below,
      c.requires.can.count,
    )

pub update-requires-clause-once : goal.update-requires-clause-once
update-requires-clause-once g c =
    let store = c.args.self.now in
    omega (
      arith,
      at_most_once (slots store.writer) (shown_of store.areas ++ store.moved.items) store.slots c.slot_of-slot.result.0 c.requires.can.hangs,
      sum_by-append (λ (s : ShownArea). one_at c.slot_of-slot.result.0 s.slot) (shown_of store.areas) store.moved.items,
    )

pub split-requires-clause-once : goal.split-requires-clause-once
split-requires-clause-once g c =
    let store = c.args.self.now in
    omega (
      arith,
      at_most_once (slots store.writer) (shown_of store.areas ++ store.moved.items) store.slots c.slot_of-slot.result.0 c.requires.can.hangs,
      sum_by-append (λ (s : ShownArea). one_at c.slot_of-slot.result.0 s.slot) (shown_of store.areas) store.moved.items,
    )

pub split-requires-clause-slot : goal.split-requires-clause-slot
split-requires-clause-slot g c =
    let store = c.args.self.now in
    omega (
      arith,
      (last_alone (slots store.writer) (shown_of store.areas) store.moved.items c.pop_moved_at.new.moved.items store.slots c.in-Some.other c.requires.can.hangs c.in-Some.ensures.items).below,
      c.requires.can.records,
    )

pub split-requires-clause-free : goal.split-requires-clause-free
split-requires-clause-free g c =
    let store = c.args.self.now in
    (last_alone (slots store.writer) (shown_of store.areas) store.moved.items c.pop_moved_at.new.moved.items store.slots c.in-Some.other c.requires.can.hangs c.in-Some.ensures.items).free

pub shrink-requires-clause-once : goal.shrink-requires-clause-once
shrink-requires-clause-once g c =
    let store = c.args.self.now in
    omega (
      arith,
      at_most_once (slots store.writer) (shown_of store.areas ++ store.moved.items) store.slots c.slot_of-slot.result.0 c.requires.can.hangs,
      sum_by-append (λ (s : ShownArea). one_at c.slot_of-slot.result.0 s.slot) (shown_of store.areas) store.moved.items,
    )

pub grow-requires-clause-once : goal.grow-requires-clause-once
grow-requires-clause-once g c =
    let store = c.args.self.now in
    omega (
      arith,
      at_most_once (slots store.writer) (shown_of store.areas ++ store.moved.items) store.slots c.slot_of-slot.result.0 c.requires.can.hangs,
      sum_by-append (λ (s : ShownArea). one_at c.slot_of-slot.result.0 s.slot) (shown_of store.areas) store.moved.items,
    )

pub returns-then-eq : goal.returns-then-eq
returns-then-eq g c =
    let store = c.args.self.now in
    let out = c.update.ensures.shown c.args.old.now c.slot_of-slot.ensures in
    λ tree. (
      c.slot_of-slot.result.0,
      record {
        table = refl;
        mine = c.write_slot.ensures.table;
        written = subst (λ row. IsWritten (lock_sight store.writer) c.slot_of-slot.result.0 row (lock_sight c.write_slot.new.writer)) c.pack-row.ensures c.write_slot.ensures.written;
        same = subst (HasSameAreaTree store.areas) (sym c.update.ensures.same) refl;
        moved_room = refl;
      },
      record { rest = out.0; before = out.1; after = inl (out.2, refl, same_meets c.args.old.now c.args.new.now c.requires.new.some_pages (same_span c.args.old.now.span c.args.new.now.span c.eq.result c.if-eq.true c.eq.ensures)) },
      refl,
    )

pub returns-in-Some : goal.returns-in-Some
returns-in-Some g c =
    let store = c.args.self.now in
    let part = c.is_end.ensures.0 c.if-is_end.true in
    let out = c.split.ensures.shown in
    λ tree. (
      c.slot_of-slot.result.0,
      record {
        table = refl;
        mine = c.write_slot.ensures.table;
        written = subst (λ row. IsWritten (lock_sight store.writer) c.slot_of-slot.result.0 row (lock_sight c.write_slot.new.writer)) c.pack-row.ensures c.write_slot.ensures.written;
        same = subst (HasSameAreaTree store.areas) (sym c.split.ensures.same) refl;
        moved_room = c.in-Some.ensures.room;
      },
      record {
        rest = out.0;
        before = out.1;
        after = inr (inr (
          c.in-Some.other,
          out.2,
          c.in-Some.ensures.items,
          end_meets c.args.old.now c.args.new.now part,
          lost_meets c.args.old.now c.args.new.now c.in-Some.other.area part (c.in-Some.ensures.pages ∙ c.beside-lost.ensures),
        ));
      },
      refl,
    )

pub returns-then-is_end : goal.returns-then-is_end
returns-then-is_end g c =
    let store = c.args.self.now in
    let out = c.shrink.ensures.shown in
    λ tree. (
      c.slot_of-slot.result.0,
      record {
        table = refl;
        mine = c.write_slot.ensures.table;
        written = subst (λ row. IsWritten (lock_sight store.writer) c.slot_of-slot.result.0 row (lock_sight c.write_slot.new.writer)) c.pack-row.ensures c.write_slot.ensures.written;
        same = subst (HasSameAreaTree store.areas) (sym c.shrink.ensures.same) refl;
        moved_room = c.in_default.ensures.room;
      },
      record { rest = out.0; before = out.1; after = inl (out.2, sym (c.in_default.ensures.items ∙ append-nil c.pop_moved_at.new.moved.items), end_meets c.args.old.now c.args.new.now (c.is_end.ensures.0 c.if-is_end.true)) },
      refl,
    )

pub returns-then-has_room : goal.returns-then-has_room
returns-then-has_room g c =
    let store = c.args.self.now in
    let out = c.grow.ensures.shown in
    λ tree. (
      c.slot_of-slot.result.0,
      record {
        table = refl;
        mine = c.write_slot.ensures.table;
        written = subst (λ row. IsWritten (lock_sight store.writer) c.slot_of-slot.result.0 row (lock_sight c.write_slot.new.writer)) c.pack-row.ensures c.write_slot.ensures.written;
        same = subst (HasSameAreaTree store.areas) (sym c.grow.ensures.same) refl;
        moved_room = refl;
      },
      record {
        rest = out.0;
        before = out.1;
        after = inl (
          out.2,
          refl,
          room_meets c.args.old.now c.args.new.now c.args.self.now.areas.tree.limit (areas_of c.args.self.now.areas) (c.has_room.ensures.room c.if-has_room.true)
              (old_pages c.args.self.now.areas.tree.limit 0 (areas_of c.args.self.now.areas) c.args.old.now c.facts.ensures.rise c.requires.old),
        );
      },
      refl,
    )

pub returns : goal.returns
returns g c =
    let store = c.args.self.now in
    λ tree. (
      c.slot_of-slot.result.0,
      record {
        table = refl;
        mine = c.write_slot.ensures.table;
        written = subst (λ row. IsWritten (lock_sight store.writer) c.slot_of-slot.result.0 row (lock_sight c.write_slot.new.writer)) c.pack-row.ensures c.write_slot.ensures.written;
        same = subst (HasSameAreaTree store.areas) (sym c.remove.ensures.same) refl;
        moved_room = c.push_reserved.ensures.capacity;
      },
      record {
        rest = shown_of c.remove.new.self;
        before = c.remove.ensures.shown c.slot_of-slot.result.0 c.slot_of-slot.ensures;
        after = inr (inl (
          IsPermutation-refl (shown_of c.remove.new.self),
          c.push_reserved.ensures.items,
          λ part. absurd (both_ways c.is_end.result c.if-is_end.false (c.is_end.ensures.1 part)),
          λ room. absurd (both_ways c.has_room.result c.if-has_room.false (c.has_room.ensures.found
              (old_within store.areas.tree.limit 0 (areas_of store.areas) c.args.old.now c.facts.ensures.rise c.requires.old) room)),
        ));
      },
      refl,
    )
