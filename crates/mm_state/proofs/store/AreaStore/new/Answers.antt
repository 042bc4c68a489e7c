-- For `AreaStore::new`: the store of a new table is at rest.
use Rattle.std.proofs.Common.{ℕ, ◌≡◌, ◌+◌, ◌*◌, ◌%◌, ◌≤◌, List, [], All, reverse, length, subst, sym, ap, ◌∙◌, arith}
use Rattle.mm_types.specs.Config.{slots_for}
use Rattle.std.specs.List.{range_with_len}
use Rattle.std.proofs.lemmas.List.Elements.{All-nil}
use Rattle.lock_core.specs.declared.stage.SlotState.{SlotState}
use Rattle.area_list.specs.Areas.{page_of}
use Rattle.area_slots.specs.declared.leaving.Leaving.{Leaving}
use Rattle.area_slots.specs.Slots.{SlotSet}
use Rattle.vma_lock.specs.declared.view.View.{View}
use Rattle.vma_lock.specs.Seats.{table_config, lock_sight}
use Rattle.area_tree.specs.declared.shown.ShownArea.{ShownArea}
use Rattle.area_tree.specs.AreaTrees.{AreaTreeView, shown_of}
use Rattle.mm_state.specs.Shelves.{Hangs}
use Rattle.mm_state.proofs.Opening.{hangs_new}
use Rattle.mm_state.proofs.store.AreaStore.new.Goals as goal

pub returns-clause-rest : goal.returns-clause-rest
returns-clause-rest c =
    let table = c.in_ok-table.ensures in
    let opened = c.requires.fresh.1 in
    let config = table.1 ∙ ap (λ (v : View). v.config) opened in
    let areas : (table_config c.in_ok-table.table).areas ≡ c.args.config.now.areas = ap (λ config. config.areas) config in
    let tree = c.in_ok-new.ensures in
    let set : ℕ → SlotSet = λ n. record { free = reverse (range_with_len 0 n); left = []; count = n } in
    let first = set (slots_for c.args.config.now.areas) in
    let made = c.in_ok-new-2.ensures ∙ ap set c.slots_for.ensures in
    let hangs = hangs_new (slots_for c.args.config.now.areas) in
    let states = ap (λ (v : View). v.writer_state.slots) opened in
    record {
      table = table.0;
      config = sym table.1;
      closed = ap (λ (v : View). v.writer_state.seq % 2) opened;
      count = ap (λ (s : SlotSet). s.count) made ∙ ap (λ n. 2 * n + 2) (sym areas);
      records = ap (λ (s : SlotSet). s.count) made ∙ ap (λ (t : AreaTreeView). slots_for t.tree.areas) (sym tree);
      hangs = subst (λ (s : SlotSet). Hangs (lock_sight c.args.writer).writer_state.slots (shown_of c.in_ok-new.field-0) s) (sym made)
          (subst (λ (shown : List ShownArea). Hangs (lock_sight c.args.writer).writer_state.slots shown first) (sym (ap shown_of tree))
          (subst (λ (s : List SlotState). Hangs s [] first) (sym states) hangs));
      tree = record {
        shown = ap (λ (t : AreaTreeView). t.tree.shown) tree ∙ sym (ap (λ (t : AreaTreeView). t.tree.pairs) tree);
        still = ap (λ (t : AreaTreeView). t.tree.changed) tree;
        number = ap (λ (t : AreaTreeView). t.tree.number) tree ∙ sym (ap (λ (v : View). length v.seen) opened);
        areas = ap (λ (t : AreaTreeView). t.tree.areas) tree ∙ sym areas;
        limit = ap (λ (t : AreaTreeView). t.tree.limit) tree ∙ sym (ap (λ config. page_of config.limit) config);
        leaving = subst (λ (s : SlotSet). All (λ leaving. leaving.tree ≤ c.in_ok-new.field-0.tree.number) s.left) (sym made)
            (All-nil (λ (l : Leaving). l.tree ≤ c.in_ok-new.field-0.tree.number));
        moved = c.in_ok-with_capacity.ensures.items;
        spare = omega (arith, areas, c.in_ok-with_capacity.ensures.exact);
      };
    }
