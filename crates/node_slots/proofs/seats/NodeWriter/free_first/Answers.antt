-- For `free_first`: the first of the queue left first, and there is room.
use Rattle.std.proofs.Common.{◌≡◌, ◌∙◌, List, [], ◌∷◌, ◌++◌, refl, ap, subst, arith}
use Rattle.std.specs.Option.{option_to_list}
use Rattle.std.proofs.lemmas.List.{map-append}
use Rattle.grace_core.specs.Core.{times}
use Rattle.mm_types.specs.declared.slot.Row.{Row}
use Rattle.node_slots.specs.declared.left.Left.{Left}
use Rattle.node_slots.specs.Kept.{left_at, free_numbers, left_numbers, RowsKept, firsts_of}
use Rattle.node_slots.specs.Seats.{writer_state}
use Rattle.node_slots.proofs.Listing.{waiting_after, passed_lists, gone_few}
use Rattle.node_slots.proofs.Counting.{first_gone}
use Rattle.node_slots.proofs.Writers.{pushed_places}
use Rattle.node_slots.proofs.seats.NodeWriter.free_first.Goals as goal

pub returns-then-not-has_passed-clause-rest : goal.returns-then-not-has_passed-clause-rest
returns-then-not-has_passed-clause-rest c =
    let writer = c.args.self.now in
    λ _. (
      refl,
      refl,
      waiting_after writer.writer_state.table.size.rows c.args.passed writer.free.items writer.left.items (firsts_of writer.notes.items) (writer_state writer) writer.rows
          (c.has_passed.ensures.none c.if-not-has_passed.true),
    )

pub unwrap-first-requires : goal.unwrap-first-requires
unwrap-first-requires c = c.pop_front.ensures.variant.1
    (omega (arith, (c.has_passed.ensures.some c.if-not-has_passed.false).0, c.args.self.now.left.ok))

pub note_spot-requires : goal.note_spot-requires
note_spot-requires c =
    let writer = c.args.self.now in
    let all = gone_few _ _ _ _ _ writer.rows in
    omega (arith, all, c.len-spot.ensures, writer.free.ok, writer.writer_state.table.sized.fits.few_rows)

pub push_back_reserved-requires : goal.push_back_reserved-requires
push_back_reserved-requires c =
    let writer = c.args.self.now in
    let some = (c.has_passed.ensures.some c.if-not-has_passed.false).0 in
    let all = gone_few writer.writer_state.table.size.rows writer.free.items writer.left.items (firsts_of writer.notes.items) (writer_state writer) writer.rows in
    omega (arith, all, some, writer.free_room, writer.free.ok)

pub invariant_of-self : goal.invariant_of-self
invariant_of-self c =
    let writer = c.args.self.now in
    let one : Left = c.unwrap-first.result in
    let rest : List Left = c.pop_front.new.self.items in
    let items : writer.left.items ≡ one ∷ rest = c.pop_front.ensures.items ∙ ap (λ o. option_to_list o ++ rest) c.unwrap-first.ensures in
    let some = c.has_passed.ensures.some c.if-not-has_passed.false in
    let first = ap (λ (l : List Left). (left_at l 0).since) items in
    record {
      rows = rw c.note_spot.ensures.firsts (rw c.push_back_reserved.ensures.items
          (passed_lists writer.writer_state.table.size.rows one writer.free.items rest (firsts_of writer.notes.items) (writer_state writer)
          (subst (λ (l : List Left). RowsKept writer.writer_state.table.size.rows writer.free.items l (firsts_of writer.notes.items) (writer_state writer)) items writer.rows)
          (omega (arith, some.1, first, c.requires.passed.1)) (omega (arith, some.1, first, c.requires.passed.0))));
      places = pushed_places writer one.row (omega (arith, first_gone one.row.0 one rest refl, ap (λ (l : List Left). times one.row.0 (left_numbers l)) items, writer.rows.once one.row.0))
          (writer.rows.inside one.row.0 (omega (arith, first_gone one.row.0 one rest refl, ap (λ (l : List Left). times one.row.0 (left_numbers l)) items)))
          _ _ _ c.push_back_reserved.ensures.items c.note_spot.ensures.spots (omega (arith, c.len-spot.ensures, writer.free.ok));
      untouched = writer.untouched;
      free_room = omega (arith, writer.free_room, c.push_back_reserved.ensures.capacity);
      left_room = omega (arith, writer.left_room, c.pop_front.ensures.capacity);
    }

pub returns-clause-freed : goal.returns-clause-freed
returns-clause-freed c =
    let writer = c.args.self.now in
    let one : Left = c.unwrap-first.result in
    let rest : List Left = c.pop_front.new.self.items in
    let items : writer.left.items ≡ one ∷ rest = c.pop_front.ensures.items ∙ ap (λ o. option_to_list o ++ rest) c.unwrap-first.ensures in
    λ _. (
      one.row.0,
      ap free_numbers c.push_back_reserved.ensures.items
          ∙ map-append (λ (r : Row). r.0) writer.free.items (one.row ∷ []),
      ap left_numbers items,
    )
