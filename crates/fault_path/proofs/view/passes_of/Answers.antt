-- For `passes_of`: the two seats of each place make the fresh pass of this place.
use Rattle.std.proofs.Common.{rules, arith, ℕ, ◌≡◌, ◌<◌, ◌%◌, ◌++◌, ◌∷◌, length, slice_get, Some, subst, sym, ap, ◌∙◌, []}
use Rattle.std.specs.Vec.Iter.{into_iter_items}
use Rattle.std.specs.Option.{option_to_list}
use Rattle.vma_lock.specs.Seats.{vma_table_id}
use Rattle.node_slots.specs.declared.view.NodeView.{NodeView}
use Rattle.node_slots.specs.Views.{reader_view}
use Rattle.node_slots.specs.Seats as node_seats
use Rattle.fault_path.specs.Passes.{PassView, ViewedTable, IsTablePass, IsFreshPass, AreUnused, caller, looks_of, walks_of, node_size}
use Rattle.fault_path.proofs.Places.{push_places, next_at, next_part, last_part, same_lengths, some_left}
use Rattle.fault_path.proofs.Passes.{fresh_pass, unused_pass}
use Rattle.fault_path.proofs.view.passes_of.Goals as goal

pub loop-reader-init : goal.loop-reader-init
loop-reader-init c = record {
  rest = search rules;
  left = search rules;
  walked = ([], c.into_iter-walkers.ensures.rest, search rules);
  walkers_left = search rules;
  count = search rules;
  fresh = search rules;
  unused = search rules;
}

pub unwrap-walker-requires : goal.unwrap-walker-requires
unwrap-walker-requires c =
    let kept = c.loop-reader.invariant in
    let turn = sym (ap (λ l. c.loop-reader.yielded ++ l) c.in-Some.ensures.steps.0) ∙ kept.rest in
    let some : 0 < length (into_iter_items c.loop-reader.walkers) =
    some_left kept.walked.0 _ c.args.walkers.items c.loop-reader.yielded _ c.args.seats.items c.in-Some.reader kept.walked.1 turn
    (kept.walked.2 ∙ kept.count) (c.requires.all.1 ∙ sym c.requires.all.0) in
    c.next-in-loop-reader.ensures.variant.1 (omega (arith, some, kept.walkers_left))

pub new-requires-clause-closed : goal.new-requires-clause-closed
new-requires-clause-closed c =
    let kept = c.loop-reader.invariant in
    let rest = into_iter_items c.next-in-loop-reader.new.self in
    let taken : into_iter_items c.loop-reader.walkers ≡ c.unwrap-walker.result ∷ rest =
    c.next-in-loop-reader.ensures.items ∙ ap (λ o. option_to_list o ++ rest) c.unwrap-walker.ensures in
    let seat = c.requires.walkers _ _ (next_at kept.walked.0 _ rest _ c.unwrap-walker.result kept.walked.1 taken) in
    ap (λ (v : NodeView). v.pin % 2) seat.1

pub loop-reader-preserved : goal.loop-reader-preserved
loop-reader-preserved c =
    let kept = c.loop-reader.invariant in
    let known = c.requires.fresh _ _ (next_at _ _ _ _ _ kept.rest c.in-Some.ensures.steps.0) in
    let rest = into_iter_items c.next-in-loop-reader.new.self in
    let taken : into_iter_items c.loop-reader.walkers ≡ c.unwrap-walker.result ∷ rest =
    c.next-in-loop-reader.ensures.items ∙ ap (λ o. option_to_list o ++ rest) c.unwrap-walker.ensures in
    let seat = c.requires.walkers _ _ (next_at kept.walked.0 _ rest _ c.unwrap-walker.result kept.walked.1 taken) in
    let place : length kept.walked.0 ≡ length c.loop-reader.yielded = kept.walked.2 ∙ kept.count in
    let viewed : ViewedTable = record {
      table = vma_table_id c.args.table.now;
      nodes = node_seats.node_table_id c.args.nodes.now;
      config = c.args.config.now;
      callers = length c.args.operations.now;
    } in
    record {
      rest = next_part _ _ _ _ _ kept.rest c.in-Some.ensures.steps.0;
      left = search rules;
      walked = (
        kept.walked.0 ++ c.unwrap-walker.result ∷ [],
        next_part kept.walked.0 _ rest _ c.unwrap-walker.result kept.walked.1 taken,
        same_lengths kept.walked.0 c.loop-reader.passes.items c.unwrap-walker.result c.in_ok-new.field-0 kept.walked.2
            ∙ sym (ap (λ items. length items) c.in_ok-push.ensures.items),
      );
      walkers_left =
          let before = kept.walkers_left in
          let items = ap (λ l. length l) taken in
          let count = ap (λ o. length (option_to_list o)) c.unwrap-walker.ensures in
          let len = c.next-in-loop-reader.ensures.len in
          omega (arith, before, items, count, len);
      count = ap (λ items. length items) c.in_ok-push.ensures.items ∙ same_lengths _ _ _ _ kept.count;
      fresh = subst
          (λ items. (place : ℕ) (pass : PassView) → slice_get items place ≡ Some pass
          → (IsTablePass viewed c.args.operations.now pass × (caller pass ≡ place)) × IsFreshPass pass)
          (sym c.in_ok-push.ensures.items)
          (push_places _ c.loop-reader.passes.items c.in_ok-new.field-0 kept.fresh
          (rw kept.count
          (fresh_pass viewed _ _ _ _ _ _ c.in_ok-new.ensures known.0 known.1 seat.0.same (seat.1 ∙ ap (reader_view (node_size c.args.config.now (length c.args.operations.now))) place)
          (grind (arith, c.len.ensures, kept.count, c.loop-reader.passes.ok)))));
      unused = subst AreUnused (sym c.in_ok-push.ensures.items)
          (push_places (λ place pass. (looks_of pass ≡ 0) × (walks_of pass ≡ 0)) c.loop-reader.passes.items c.in_ok-new.field-0 kept.unused
          (unused_pass _ _ _ _ _ _ _ _ c.in_ok-new.ensures known.1 seat.1));
    }

pub returns-clause-unused : goal.returns-clause-unused
returns-clause-unused c = c.loop-reader.invariant.unused

pub returns-clause-fresh : goal.returns-clause-fresh
returns-clause-fresh c = let kept = c.loop-reader.invariant in record {
  passes_are = record {
    all = kept.count ∙ last_part _ _ _ kept.rest (sym kept.left ∙ c.in-None.ensures.steps.0) ∙ c.requires.all.0;
    each = λ place pass at. (kept.fresh place pass at).0;
  };
  fresh = λ place pass at. (kept.fresh place pass at).1;
}
