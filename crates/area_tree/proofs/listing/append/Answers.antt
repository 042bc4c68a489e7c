-- For `append`: a turn moves an area from those above the page to the list.
use Rattle.std.proofs.Common.{◌<◌, ◌+◌, ◌*◌, ◌++◌, ◌∷◌, [], List, length, map, append_assoc, append-nil, length-append, rules, refl, ap, sym, ◌∙◌, arith}
use Rattle.std.specs.Vec.{vec_capacity}
use Rattle.mm_types.specs.declared.area.Record.{Record}
use Rattle.area_tree.specs.AreaTrees.{shown_at, areas_shown}
use Rattle.area_tree.proofs.Order.{count_areas, areas_rise}
use Rattle.area_tree.proofs.Above.{after, after_all, next_above, none_above}
use Rattle.area_tree.proofs.listing.append.Goals as goal

pub loop-area-init : goal.loop-area-init
loop-area-init c =
    let tree = c.args.tree.now in
    let records : List Record = c.args.records.now in
    let areas : List Record = areas_shown (map (shown_at records) tree.pairs) in
    let rise = areas_rise records (2 * tree.areas + 2) tree.limit 0 tree.pairs c.facts.ensures.pairs c.requires.spans in
    record {
      listed = ap (λ (xs : List Record). xs ++ after 0 areas) c.requires.empty ∙ after_all tree.limit 0 0 areas rise (omega arith);
      room = refl;
      cost = omega arith;
    }

pub push_reserved-requires : goal.push_reserved-requires
push_reserved-requires c =
    let tree = c.args.tree.now in
    let records : List Record = c.args.records.now in
    let areas : List Record = areas_shown (map (shown_at records) tree.pairs) in
    let next = next_above records (2 * tree.areas + 2) tree.limit c.loop-area.page tree.pairs c.next_slot.result c.shown_by.result c.in-Some.area
    c.facts.ensures.pairs c.requires.spans c.next_slot.ensures.slot c.shown_by.ensures c.in-Some.is in
    let below : length c.loop-area.list.items < vec_capacity c.loop-area.list = omega (
      arith,
      length-append c.loop-area.list.items (after c.loop-area.page areas),
      ap (λ (xs : List Record). length xs) c.loop-area.invariant.listed,
      ap (λ (xs : List Record). length xs) next,
      count_areas records tree.pairs,
      c.requires.room,
      c.loop-area.invariant.room,
    ) in
    search rules

pub loop-area-preserved : goal.loop-area-preserved
loop-area-preserved c =
    let tree = c.args.tree.now in
    let records : List Record = c.args.records.now in
    let areas : List Record = areas_shown (map (shown_at records) tree.pairs) in
    let next = next_above records (2 * tree.areas + 2) tree.limit c.loop-area.page tree.pairs c.next_slot.result c.shown_by.result c.in-Some.area
    c.facts.ensures.pairs c.requires.spans c.next_slot.ensures.slot c.shown_by.ensures c.in-Some.is in
    let above : List Record = after c.in-Some.area.span.hi areas in
    record {
      listed = ap (λ (xs : List Record). xs ++ above) c.push_reserved.ensures.items
          ∙ append_assoc c.loop-area.list.items (c.in-Some.area ∷ []) above
          ∙ ap (λ (xs : List Record). c.loop-area.list.items ++ xs) (sym next)
          ∙ c.loop-area.invariant.listed;
      room = c.push_reserved.ensures.capacity ∙ c.loop-area.invariant.room;
      cost = omega (
        arith,
        c.loop-area.invariant.cost,
        c.next_slot.ensures.reads,
        ap (λ (xs : List Record). length xs) c.push_reserved.ensures.items,
        length-append c.loop-area.list.items (c.in-Some.area ∷ []),
      );
    }

pub loop-area-smaller : goal.loop-area-smaller
loop-area-smaller c =
    let tree = c.args.tree.now in
    let next = next_above c.args.records.now (2 * tree.areas + 2) tree.limit c.loop-area.page tree.pairs c.next_slot.result c.shown_by.result c.in-Some.area
    c.facts.ensures.pairs c.requires.spans c.next_slot.ensures.slot c.shown_by.ensures c.in-Some.is in
    omega (arith, ap (λ (xs : List Record). length xs) next)

pub returns-clause-areas : goal.returns-clause-areas
returns-clause-areas c =
    let tree = c.args.tree.now in
    let none = none_above c.args.records.now c.loop-area.page tree.pairs c.next_slot.result c.shown_by.result
    c.requires.spans c.next_slot.ensures.slot c.shown_by.ensures c.in_default.is in
    sym (append-nil c.loop-area.list.items) ∙ ap (λ (xs : List Record). c.loop-area.list.items ++ xs) (sym none) ∙ c.loop-area.invariant.listed

pub returns-clause-reads : goal.returns-clause-reads
returns-clause-reads c =
    let tree = c.args.tree.now in
    let none = none_above c.args.records.now c.loop-area.page tree.pairs c.next_slot.result c.shown_by.result
    c.requires.spans c.next_slot.ensures.slot c.shown_by.ensures c.in_default.is in
    omega (
      arith,
      c.loop-area.invariant.cost,
      c.next_slot.ensures.reads,
      length-append c.loop-area.list.items (after c.loop-area.page (areas_shown (map (shown_at c.args.records.now) tree.pairs))),
      ap (λ (xs : List Record). length xs) c.loop-area.invariant.listed,
      count_areas c.args.records.now tree.pairs,
    )
