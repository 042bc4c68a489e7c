-- For `AreaStore::carry_out`: the store is at rest again.
use Rattle.std.proofs.Common.{◌≡◌, ◌≤◌, ◌+◌, ◌++◌, [], ◌∷◌, List, All, length, ap, ◌∙◌, arith, subst, sym, length-append, sum_by, vec_capacity}
use Rattle.mm_types.specs.Config.{slots_for}
use Rattle.mm_types.specs.declared.area.Record.{Record}
use Rattle.mm_types.specs.declared.call.Entry.{Entry}
use Rattle.mm_types.specs.declared.config.Config.{Config}
use Rattle.mm_types.specs.Packed.{packed}
use Rattle.lock_core.specs.declared.stage.SlotState.{SlotState}
use Rattle.lock_core.specs.Facts.{list_after}
use Rattle.lock_core.specs.Rows.{Exactly}
use Rattle.area_list.specs.Areas.{page_of}
use Rattle.split_merge.specs.Plans.{applied, IsPlanOf}
use Rattle.area_slots.specs.Slots.{SlotSet}
use Rattle.vma_lock.specs.declared.view.View.{View}
use Rattle.vma_lock.specs.declared.seats.WriterSeat.{WriterSeat}
use Rattle.vma_lock.specs.Views.{begin_at, end_at}
use Rattle.vma_lock.specs.Seats.{table_config, slots_of, lock_sight, journal, slots}
use Rattle.area_tree.specs.AreaTrees.{AreaTreeView, shown_of, areas_of, AreasRise}
use Rattle.mm_state.specs.declared.store.AreaStore.{AreaStore}
use Rattle.mm_state.specs.Shelves.{Hangs}
use Rattle.mm_state.specs.States.{MarksChanged, KeepsSlots, KeepsLeft, HaveLeft}
use Rattle.mm_state.specs.Internal.AreaStores.{IsPackable, ChangesAtMost}
use Rattle.mm_state.proofs.Changing.{tree_step}
use Rattle.mm_state.proofs.Hanging.{hangs_permuted, freed_waits}
use Rattle.mm_state.proofs.Readying.{prepared, can_store, rows_then, areas_then, news_few, slots_suffice}
use Rattle.mm_state.proofs.Staying.{stays}
use Rattle.mm_state.proofs.store.AreaStore.carry_out.Goals as goal

pub make_ready-requires-clause-enough : goal.make_ready-requires-clause-enough
make_ready-requires-clause-enough g c = slots_suffice c.args.self.now c.args.changes.now c.requires.rest c.facts.ensures.few
    (omega (arith, c.requires.plan.few_after, c.requires.rest.tree.areas))

pub change_all-requires-clause-can : goal.change_all-requires-clause-can
change_all-requires-clause-can g c =
    let ready = c.make_ready.ensures.ready in
    let p = prepared c.args.self.now c.make_ready.new.self c.args.changes.now c.requires.rest ready in
    let begun = c.begin.ensures.view in
    record {
      table = c.begin.ensures.table;
      open_call = omega (arith, ap (λ (v : View). v.writer_state.seq) begun, ap (λ w. (lock_sight w).writer_state.seq) ready.writer, c.requires.rest.closed);
      count = ready.slots.count ∙ c.requires.rest.count ∙ ap slots_of (sym ready.table);
      records = ready.slots.count ∙ c.requires.rest.records ∙ sym (ap (λ (t : AreaTreeView). slots_for t.tree.areas) ready.areas);
      hangs = subst (λ (states : List SlotState). Hangs states (shown_of c.make_ready.new.self.areas ++ c.make_ready.new.self.moved.items) c.make_ready.new.self.slots)
          (sym (ap (λ (v : View). v.writer_state.slots) begun ∙ ap slots ready.writer)) p.hangs;
      roomy = ap (λ (t : AreaTreeView). t.tree.roomy) ready.areas;
    }

pub change_all-requires-clause-plan : goal.change_all-requires-clause-plan
change_all-requires-clause-plan g c = subst (λ (t : AreaTreeView). IsPlanOf (areas_of t) c.args.changes.now) (sym c.make_ready.ensures.ready.areas) c.requires.plan.plan

pub change_all-requires-clause-moved : goal.change_all-requires-clause-moved
change_all-requires-clause-moved g c = (prepared c.args.self.now c.make_ready.new.self c.args.changes.now c.requires.rest c.make_ready.ensures.ready).moved

pub change_all-requires-clause-leaving : goal.change_all-requires-clause-leaving
change_all-requires-clause-leaving g c =
    let ready = c.make_ready.ensures.ready in
    let begun = c.begin.ensures.view in
    let number : c.make_ready.new.self.areas.tree.number ≡ c.version-tree.result =
    ap (λ (t : AreaTreeView). t.tree.number) ready.areas ∙ c.requires.rest.tree.number ∙ ap (λ w. length (journal w)) (sym ready.writer)
    ∙ sym (c.version-tree.ensures ∙ ap (λ (v : View). length v.seen) begun) in
    subst (λ n. All (λ leaving. leaving.tree ≤ n + 1) c.make_ready.new.self.slots.left) number
    (prepared c.args.self.now c.make_ready.new.self c.args.changes.now c.requires.rest ready).leaving

pub change_all-requires-clause-room : goal.change_all-requires-clause-room
change_all-requires-clause-room g c = omega (
  arith,
  ap vec_capacity c.make_ready.ensures.ready.moved,
  c.requires.rest.tree.spare,
  c.requires.plan.few_after,
  news_few c.args.changes.now (areas_of c.args.self.now.areas),
)

pub store_moved-requires : goal.store_moved-requires
store_moved-requires g c =
    let ready = c.make_ready.ensures.ready in
    let changing = c.change_all.ensures in
    let store = c.change_all.new.self in
    let start = c.make_ready.new.self in
    let limit : store.areas.tree.limit ≡ page_of (table_config c.args.self.now.table).limit =
    ap (λ (t : AreaTreeView). t.tree.limit) changing.same ∙ ap (λ (t : AreaTreeView). t.tree.limit) ready.areas ∙ c.requires.rest.tree.limit in
    let areas : store.areas.tree.areas ≡ (table_config c.args.self.now.table).areas =
    ap (λ (t : AreaTreeView). t.tree.areas) changing.same ∙ ap (λ (t : AreaTreeView). t.tree.areas) ready.areas ∙ c.requires.rest.tree.areas in
    let plan = subst (λ (t : AreaTreeView). IsPlanOf (areas_of t) c.args.changes.now) (sym ready.areas) c.requires.plan.plan in
    let rise = subst (λ (t : AreaTreeView). AreasRise (page_of (table_config c.args.self.now.table).limit) 0 (applied c.args.changes.now (areas_of t))) (sym ready.areas)
    c.requires.plan.rise_after in
    let few = ap (λ (t : AreaTreeView). length (applied c.args.changes.now (areas_of t))) ready.areas in (
      ap (λ (t : AreaTreeView). t.tree.roomy) changing.same ∙ ap (λ (t : AreaTreeView). t.tree.roomy) ready.areas,
      can_store _ store c.args.changes.now _ changing plan store.areas.tree.areas store.areas.tree.limit
          (subst (λ n. AreasRise n 0 (applied c.args.changes.now (areas_of start.areas))) (sym limit) rise)
          (omega (arith, areas, few, c.requires.plan.few_after))
          (omega (arith, changing.count, ready.slots.count, c.requires.rest.count, areas)),
    )

pub publish_areas-requires-clause-roomy : goal.publish_areas-requires-clause-roomy
publish_areas-requires-clause-roomy g c =
    ap (λ (t : AreaTreeView). t.tree.roomy) c.store_moved.ensures.same ∙ ap (λ (t : AreaTreeView). t.tree.roomy) c.change_all.ensures.same
    ∙ ap (λ (t : AreaTreeView). t.tree.roomy) c.make_ready.ensures.ready.areas

pub publish_areas-requires-clause-calls : goal.publish_areas-requires-clause-calls
publish_areas-requires-clause-calls g c =
    let begun = c.begin.ensures.view ∙ ap begin_at (ap lock_sight c.make_ready.ensures.ready.writer) in
    ap length (c.change_all.ensures.beside.seen ∙ ap (λ (v : View). v.seen) begun) ∙ sym c.requires.rest.tree.number
    ∙ sym (ap (λ (t : AreaTreeView). t.tree.number) c.store_moved.ensures.same ∙ ap (λ (t : AreaTreeView). t.tree.number) c.change_all.ensures.same
    ∙ ap (λ (t : AreaTreeView). t.tree.number) c.make_ready.ensures.ready.areas)

pub publish_areas-requires-clause-number : goal.publish_areas-requires-clause-number
publish_areas-requires-clause-number g c = omega (
  arith,
  ap (λ (t : AreaTreeView). t.tree.number) c.store_moved.ensures.same,
  ap (λ (t : AreaTreeView). t.tree.number) c.change_all.ensures.same,
  ap (λ (t : AreaTreeView). t.tree.number) c.make_ready.ensures.ready.areas,
  c.requires.rest.tree.number,
  c.requires.room,
)

pub end-requires-clause-exact : goal.end-requires-clause-exact
end-requires-clause-exact g c =
    let ready = c.make_ready.ensures.ready in
    let changing = c.change_all.ensures in
    let store = c.change_all.new.self in
    let begun = c.begin.ensures.view ∙ ap begin_at (ap lock_sight ready.writer) in
    let config : (lock_sight store.writer).config ≡ table_config c.args.self.now.table = changing.beside.config ∙ ap (λ (v : View). v.config) begun ∙ c.requires.rest.config in
    let seen : journal store.writer ≡ journal c.args.self.now.writer = changing.beside.seen ∙ ap (λ (v : View). v.seen) begun in
    let plan = subst (λ (t : AreaTreeView). IsPlanOf (areas_of t) c.args.changes.now) (sym ready.areas) c.requires.plan.plan in
    let list : applied c.args.changes.now (areas_of c.make_ready.new.self.areas) ≡ list_after (lock_sight store.writer).config (journal store.writer ++ c.args.entry ∷ []) =
    ap (λ (t : AreaTreeView). applied c.args.changes.now (areas_of t)) ready.areas ∙ c.requires.plan.result
    ∙ sym (ap (λ (k : Config). list_after k (journal c.args.self.now.writer ++ c.args.entry ∷ [])) config)
    ∙ sym (ap (λ (j : List Entry). list_after (lock_sight store.writer).config (j ++ c.args.entry ∷ [])) seen) in
    subst (λ (w : WriterSeat). Exactly (slots w) (list_after (lock_sight w).config (journal w ++ c.args.entry ∷ []))) (sym (ap (λ (b : AreaStore). b.writer) c.publish_areas.ensures.same))
    (λ weight. rows_then _ store c.args.changes.now _ changing plan weight ∙ ap (sum_by (λ (area : Record). weight (packed area))) list)

-- what holds from an opened call on holds from before it
between : (P : List SlotState → List SlotState → Type 0) (before opened changed ended : List SlotState) → opened ≡ before → ended ≡ changed → P opened changed → P before ended
between P before opened changed ended were are holds = subst (λ states. P states ended) were (subst (P opened) (sym are) holds)

pub returns-clause-done : goal.returns-clause-done
returns-clause-done g c =
    let ready = c.make_ready.ensures.ready in
    let changing = c.change_all.ensures in
    let before = c.args.self.now in
    let store = c.change_all.new.self in
    let start = c.make_ready.new.self in
    let opened = c.begin.new.writer in
    let ended = c.end.new.writer in
    let after = c.store_moved.new.areas in
    let same = c.publish_areas.ensures.same in
    let shown = c.publish_areas.ensures.areas in
    let tree = tree_step start.areas store.areas after changing.same c.store_moved.ensures.same in
    let limit : after.tree.limit ≡ page_of (table_config before.table).limit =
    ap (λ (t : AreaTreeView). t.tree.limit) tree ∙ ap (λ (t : AreaTreeView). t.tree.limit) ready.areas ∙ c.requires.rest.tree.limit in
    let plan = subst (λ (t : AreaTreeView). IsPlanOf (areas_of t) c.args.changes.now) (sym ready.areas) c.requires.plan.plan in
    let rise = subst (λ (t : AreaTreeView). AreasRise (page_of (table_config before.table).limit) 0 (applied c.args.changes.now (areas_of t))) (sym ready.areas)
    c.requires.plan.rise_after in
    let begun = c.begin.ensures.view ∙ ap begin_at (ap lock_sight ready.writer) in
    let were : slots opened ≡ slots before.writer = ap (λ (v : View). v.writer_state.slots) begun in
    let met : lock_sight ended ≡ end_at (lock_sight store.writer) c.args.entry =
    c.end.ensures.view ∙ ap (λ (w : WriterSeat). end_at (lock_sight w) c.args.entry) (ap (λ (b : AreaStore). b.writer) same) in
    let are : slots ended ≡ slots store.writer = ap (λ (v : View). v.writer_state.slots) met in
    let set : c.publish_areas.new.self.slots ≡ store.slots = ap (λ (b : AreaStore). b.slots) same in
    let number : c.publish_areas.new.self.areas.tree.number ≡ c.version-tree.result + 1 =
    ap (λ (t : AreaTreeView). t.tree.number) shown ∙ ap (λ (t : AreaTreeView). t.tree.number + 1) tree ∙ ap (λ (t : AreaTreeView). t.tree.number + 1) ready.areas
    ∙ ap (λ n. n + 1) (c.requires.rest.tree.number ∙ sym (c.version-tree.ensures ∙ ap (λ (v : View). length v.seen) begun)) in
    let elapsed : start.areas.tree.elapsed ≤ c.publish_areas.new.self.areas.tree.elapsed =
    omega (arith, c.publish_areas.ensures.elapsed, ap (λ (t : AreaTreeView). t.tree.elapsed) tree) in
    let hangs = subst (λ (t : AreaTreeView). Hangs (slots opened) (shown_of t) before.slots) (sym ready.areas)
    (subst (λ (states : List SlotState). Hangs states (shown_of before.areas) before.slots) (sym were) c.requires.rest.hangs) in
    let packable = subst (λ (t : AreaTreeView). All IsPackable (areas_of t)) (sym ready.areas) c.requires.plan.packable in
    record {
      entered = ap (λ (v : View). v.seen) met ∙ ap (λ j. j ++ c.args.entry ∷ []) (changing.beside.seen ∙ ap (λ (v : View). v.seen) begun);
      areas = ap areas_of shown
          ∙ areas_then _ store c.args.changes.now _ changing plan after after.tree.limit c.store_moved.ensures.shown c.facts-2.ensures.rise
          (subst (λ n. AreasRise n 0 (applied c.args.changes.now (areas_of start.areas))) (sym limit) rise)
          ∙ ap (λ (t : AreaTreeView). applied c.args.changes.now (areas_of t)) ready.areas;
      bounds = ap (λ (t : AreaTreeView). t.bounds) shown ∙ ap (λ (t : AreaTreeView). t.bounds) tree ∙ ap (λ (t : AreaTreeView). t.bounds) ready.areas;
      most = ap (λ (t : AreaTreeView). t.tree.areas) shown ∙ ap (λ (t : AreaTreeView). t.tree.areas) tree ∙ ap (λ (t : AreaTreeView). t.tree.areas) ready.areas;
      nodes = ap (λ (t : AreaTreeView). t.tree.table) shown ∙ ap (λ (t : AreaTreeView). t.tree.table) tree ∙ ap (λ (t : AreaTreeView). t.tree.table) ready.areas;
      few = between (ChangesAtMost (length c.args.changes.now)) (slots before.writer) (slots opened) (slots store.writer) (slots ended) were are changing.few;
      marks = between MarksChanged (slots before.writer) (slots opened) (slots store.writer) (slots ended) were are changing.marks;
      stays = between (KeepsSlots (areas_of before.areas) (applied c.args.changes.now (areas_of before.areas)))
          (slots before.writer) (slots opened) (slots store.writer) (slots ended) were are
          (subst (λ (t : AreaTreeView). KeepsSlots (areas_of t) (applied c.args.changes.now (areas_of t)) (slots opened) (slots store.writer)) ready.areas
          (stays _ store c.args.changes.now _ before.slots changing hangs packable plan c.requires.plan.real));
      waits = subst (λ (s : SlotSet). KeepsLeft c.publish_areas.new.self.areas.tree.elapsed before.slots.left s.left (slots before.writer) (slots ended)) (sym set)
          (between (KeepsLeft c.publish_areas.new.self.areas.tree.elapsed before.slots.left store.slots.left)
          (slots before.writer) (slots opened) (slots store.writer) (slots ended) were are
          (λ leaving member later. changing.waits leaving (freed_waits start.areas.tree.elapsed before.slots start.slots ready.slots leaving member (omega (arith, elapsed, later)))));
      publishes = (
        omega (arith, number, c.version-tree.ensures, ap (λ (v : View). length v.seen) begun, c.requires.rest.tree.number),
        ap (λ (t : AreaTreeView). t.tree.published) shown
            ∙ omega (arith, ap (λ (v : View). v.writer_state.seq) begun, changing.beside.seq),
        omega (arith, ap (λ (v : View). v.writer_state.seq) met, changing.beside.seq, ap (λ (v : View). v.writer_state.seq) begun),
      );
      gone = subst (λ (s : SlotSet). HaveLeft c.publish_areas.new.self.areas.tree.number s.left (slots before.writer) (slots ended)) (sym set)
          (subst (λ n. HaveLeft n store.slots.left (slots before.writer) (slots ended)) (sym number)
          (between (HaveLeft (c.version-tree.result + 1) store.slots.left) (slots before.writer) (slots opened) (slots store.writer) (slots ended) were are changing.gone));
    }

pub returns-clause-rest : goal.returns-clause-rest
returns-clause-rest g c =
    let ready = c.make_ready.ensures.ready in
    let changing = c.change_all.ensures in
    let store = c.change_all.new.self in
    let published = c.publish_areas.new.self in
    let same = c.publish_areas.ensures.same in
    let table = ap (λ (b : AreaStore). b.table) same ∙ changing.table ∙ ready.table in
    let writer : published.writer ≡ store.writer = ap (λ (b : AreaStore). b.writer) same in
    let set : published.slots ≡ store.slots = ap (λ (b : AreaStore). b.slots) same in
    let moved : published.moved ≡ c.store_moved.new.moved = ap (λ (b : AreaStore). b.moved) same in
    let met : lock_sight c.end.new.writer ≡ end_at (lock_sight store.writer) c.args.entry =
    c.end.ensures.view ∙ ap (λ (w : WriterSeat). end_at (lock_sight w) c.args.entry) writer in
    let begun = c.begin.ensures.view ∙ ap begin_at (ap lock_sight ready.writer) in
    let stored = c.store_moved.ensures in
    let shown = c.publish_areas.ensures.areas in
    let tree = tree_step c.make_ready.new.self.areas store.areas c.store_moved.new.areas changing.same stored.same in
    let limit : published.areas.tree.limit ≡ page_of (table_config c.args.self.now.table).limit =
    ap (λ (t : AreaTreeView). t.tree.limit) shown ∙ ap (λ (t : AreaTreeView). t.tree.limit) tree ∙ ap (λ (t : AreaTreeView). t.tree.limit) ready.areas ∙ c.requires.rest.tree.limit in
    let areas : published.areas.tree.areas ≡ (table_config c.args.self.now.table).areas =
    ap (λ (t : AreaTreeView). t.tree.areas) shown ∙ ap (λ (t : AreaTreeView). t.tree.areas) tree ∙ ap (λ (t : AreaTreeView). t.tree.areas) ready.areas ∙ c.requires.rest.tree.areas in
    let number : published.areas.tree.number ≡ length (journal c.args.self.now.writer) + 1 =
    ap (λ (t : AreaTreeView). t.tree.number) shown ∙ ap (λ (t : AreaTreeView). t.tree.number + 1) tree ∙ ap (λ (t : AreaTreeView). t.tree.number + 1) ready.areas
    ∙ ap (λ n. n + 1) c.requires.rest.tree.number in
    let seen : journal c.end.new.writer ≡ journal c.args.self.now.writer ++ c.args.entry ∷ [] =
    ap (λ (v : View). v.seen) met ∙ ap (λ j. j ++ c.args.entry ∷ []) (changing.beside.seen ∙ ap (λ (v : View). v.seen) begun) in
    record {
      table = c.end.ensures.table;
      config = ap (λ (v : View). v.config) met ∙ changing.beside.config ∙ ap (λ (v : View). v.config) begun ∙ c.requires.rest.config ∙ ap table_config (sym table);
      closed = omega (arith, ap (λ (v : View). v.writer_state.seq) met, changing.beside.seq, ap (λ (v : View). v.writer_state.seq) begun, c.requires.rest.closed);
      count = ap (λ (s : SlotSet). s.count) set ∙ changing.count ∙ ready.slots.count ∙ c.requires.rest.count ∙ ap slots_of (sym table);
      records = omega (arith, ap (λ (s : SlotSet). s.count) set, changing.count, ready.slots.count, c.requires.rest.records, c.requires.rest.tree.areas, areas);
      hangs = subst (λ (states : List SlotState). Hangs states (shown_of published.areas) published.slots) (sym (ap (λ (v : View). v.writer_state.slots) met))
          (subst (λ (s : SlotSet). Hangs (slots store.writer) (shown_of published.areas) s) (sym set)
          (subst (λ (t : AreaTreeView). Hangs (slots store.writer) (shown_of t) store.slots) (sym shown)
          (hangs_permuted (slots store.writer) (shown_of store.areas ++ store.moved.items) (shown_of c.store_moved.new.areas) store.slots stored.shown changing.hangs)));
      tree = record {
        shown = ap (λ (t : AreaTreeView). t.tree.shown) shown ∙ sym (ap (λ (t : AreaTreeView). t.tree.pairs) shown);
        still = ap (λ (t : AreaTreeView). t.tree.changed) shown;
        number = number ∙ sym (ap length seen ∙ length-append (journal c.args.self.now.writer) (c.args.entry ∷ []));
        areas = areas ∙ ap (λ t. (table_config t).areas) (sym table);
        limit = limit ∙ ap (λ t. page_of (table_config t).limit) (sym table);
        leaving = subst (λ (s : SlotSet). All (λ leaving. leaving.tree ≤ published.areas.tree.number) s.left) (sym set)
            (subst (λ n. All (λ leaving. leaving.tree ≤ n) store.slots.left)
            (ap (λ n. n + 1) (c.version-tree.ensures ∙ ap (λ (v : View). length v.seen) begun) ∙ sym number) changing.leaving);
        moved = ap (λ m. m.items) moved ∙ stored.none;
        spare = omega (arith, ap (λ t. (table_config t).areas) table, ap vec_capacity moved, stored.room, changing.moved_room, ap vec_capacity ready.moved, c.requires.rest.tree.spare);
      };
    }
