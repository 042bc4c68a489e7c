-- For `leave`: there is room, and the lists keep what they keep.
use Rattle.std.proofs.Common.{◌∙◌, [], ◌∷◌, ◌++◌, ◌+◌, sym, ap, arith}
use Rattle.std.proofs.lemmas.Bool.{cond-true, cond-false}
use Rattle.std.proofs.lemmas.List.{map-append}
use Rattle.mm_types.specs.declared.slot.Row.{Row}
use Rattle.grace_core.proofs.Moves.{free_parts}
use Rattle.node_slots.specs.declared.left.Left.{Left}
use Rattle.node_slots.specs.Kept.{free_numbers, left_numbers, firsts_of}
use Rattle.node_slots.specs.Seats.{writer_state, is_present, free_of, retired_rows}
use Rattle.node_slots.proofs.Listing.{gone_few, gone_fewer, free_lists, left_lists}
use Rattle.node_slots.proofs.Writers.{writer_kept, writer_first, pushed_places}
use Rattle.node_slots.proofs.seats.NodeWriter.leave.Goals as goal

pub push_back_reserved-requires : goal.push_back_reserved-requires
push_back_reserved-requires c =
    let writer = c.args.self.now in
    let row = c.args.row.0 in
    let kept = writer_kept writer row c.requires.kept in
    let room = gone_fewer writer.writer_state.table.size.rows row writer.free.items writer.left.items (firsts_of writer.notes.items) (writer_state writer) writer.rows kept.0
    kept.1 in
    omega (arith, room, writer.left_room, writer.left.ok)

pub note_spot-requires : goal.note_spot-requires
note_spot-requires c =
    let writer = c.args.self.now in
    let all = gone_few _ _ _ _ _ writer.rows in
    omega (arith, all, c.len-spot.ensures, writer.free.ok, writer.writer_state.table.sized.fits.few_rows)

pub push_back_reserved-requires-else-index-next : goal.push_back_reserved-requires-else-index-next
push_back_reserved-requires-else-index-next c =
    let writer = c.args.self.now in
    let row = c.args.row.0 in
    let kept = writer_kept writer row c.requires.kept in
    let room = gone_fewer writer.writer_state.table.size.rows row writer.free.items writer.left.items (firsts_of writer.notes.items) (writer_state writer) writer.rows kept.0
    kept.1 in
    omega (arith, room, writer.free_room, writer.free.ok)

pub invariant_of-self : goal.invariant_of-self
invariant_of-self c =
    let writer = c.args.self.now in
    let row = c.args.row.0 in
    let kept = writer_kept writer row c.requires.kept in
    let first = writer_first writer row c.index.result.now c.requires.kept c.index.ensures in
    let number = writer.writer_state.kept.number_is in
    let one : Left = record { row = c.args.row; since = writer.writer_state.root.tree + 1 } in
    record {
      rows = rw c.push_back_reserved.ensures.items
          (left_lists writer.writer_state.table.size.rows one writer.free.items writer.left.items (firsts_of writer.notes.items) (writer_state writer) writer.rows kept.0 kept.1
          (omega (arith, first, c.if-index-next.true, number)) (omega (arith, number)));
      places = writer.places;
      untouched = writer.untouched;
      free_room = writer.free_room;
      left_room = omega (arith, writer.left_room, c.push_back_reserved.ensures.capacity);
    }

pub invariant_of-self-else-index-next : goal.invariant_of-self-else-index-next
invariant_of-self-else-index-next c =
    let writer = c.args.self.now in
    let row = c.args.row.0 in
    let kept = writer_kept writer row c.requires.kept in
    let first = writer_first writer row c.index.result.now c.requires.kept c.index.ensures in
    let number = writer.writer_state.kept.number_is in
    record {
      rows = rw c.note_spot.ensures.firsts (rw c.push_back_reserved-else-index-next.ensures.items
          (free_lists writer.writer_state.table.size.rows c.args.row writer.free.items writer.left.items (firsts_of writer.notes.items) (writer_state writer) writer.rows kept.0
          kept.1
          (omega (arith, first, c.if-index-next.false, number))));
      places = pushed_places writer c.args.row (omega (arith, kept.1)) kept.0
          _ _ _ c.push_back_reserved-else-index-next.ensures.items c.note_spot.ensures.spots (omega (arith, c.len-spot.ensures, writer.free.ok));
      untouched = writer.untouched;
      free_room = omega (arith, writer.free_room, c.push_back_reserved-else-index-next.ensures.capacity);
      left_room = writer.left_room;
    }

pub returns-then-index-next-clause-left : goal.returns-then-index-next-clause-left
returns-then-index-next-clause-left c =
    let writer = c.args.self.now in
    let row = c.args.row.0 in
    let kept = writer_kept writer row c.requires.kept in
    let first = writer_first writer row c.index.result.now c.requires.kept c.index.ensures in
    let number = writer.writer_state.kept.number_is in
    let present = writer.rows.present row kept.0 kept.1 (omega (arith, first, c.if-index-next.true, number)) in
    let one : Left = record { row = c.args.row; since = writer.writer_state.root.tree + 1 } in
    ap left_numbers c.push_back_reserved.ensures.items ∙ map-append (λ (l : Left). l.row.0) writer.left.items (one ∷ [])
    ∙ sym (cond-true (is_present writer row) (retired_rows writer ++ row ∷ []) (retired_rows writer) present)

pub returns-then-index-next-clause-free : goal.returns-then-index-next-clause-free
returns-then-index-next-clause-free c =
    let writer = c.args.self.now in
    let row = c.args.row.0 in
    let kept = writer_kept writer row c.requires.kept in
    let first = writer_first writer row c.index.result.now c.requires.kept c.index.ensures in
    let number = writer.writer_state.kept.number_is in
    let present = writer.rows.present row kept.0 kept.1 (omega (arith, first, c.if-index-next.true, number)) in
    sym (cond-true (is_present writer row) (free_of writer) (free_of writer ++ row ∷ []) present)

pub returns-else-index-next-clause-free : goal.returns-else-index-next-clause-free
returns-else-index-next-clause-free c =
    let writer = c.args.self.now in
    let row = c.args.row.0 in
    let kept = writer_kept writer row c.requires.kept in
    let first = writer_first writer row c.index.result.now c.requires.kept c.index.ensures in
    let number = writer.writer_state.kept.number_is in
    let out = (free_parts (writer_state writer) row (writer.rows.taken row kept.0 kept.1 (omega (arith, first, c.if-index-next.false, number)))).0 in
    ap free_numbers c.push_back_reserved-else-index-next.ensures.items ∙ map-append (λ (r : Row). r.0) writer.free.items (c.args.row ∷ [])
    ∙ sym (cond-false (is_present writer row) (free_of writer) (free_of writer ++ row ∷ []) out)

pub returns-else-index-next-clause-left : goal.returns-else-index-next-clause-left
returns-else-index-next-clause-left c =
    let writer = c.args.self.now in
    let row = c.args.row.0 in
    let kept = writer_kept writer row c.requires.kept in
    let first = writer_first writer row c.index.result.now c.requires.kept c.index.ensures in
    let number = writer.writer_state.kept.number_is in
    let out = (free_parts (writer_state writer) row (writer.rows.taken row kept.0 kept.1 (omega (arith, first, c.if-index-next.false, number)))).0 in
    sym (cond-false (is_present writer row) (retired_rows writer ++ row ∷ []) (retired_rows writer) out)
