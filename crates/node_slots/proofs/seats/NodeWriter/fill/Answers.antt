-- For `fill`: the row is free by the grace protocol, and the lists keep what they keep.
use Rattle.std.proofs.Common.{ℕ, ◌∙◌, sym, ap, arith}
use Rattle.node_slots.specs.Seats.{node_table_id, node_sight, writer_state, free_of}
use Rattle.node_slots.specs.Kept.{firsts_of, spots_of}
use Rattle.node_slots.proofs.Listing.{taken_free, fill_lists}
use Rattle.node_slots.proofs.Spots.{below_fresh}
use Rattle.node_slots.proofs.Writers.{writer_taken}
use Rattle.node_slots.proofs.seats.NodeWriter.fill.Goals as goal

pub fill_row-requires-clause-row : goal.fill_row-requires-clause-row
fill_row-requires-clause-row c = (writer_taken c.args.self.now c.args.row.0 c.requires.taken).0

pub fill_row-requires-clause-free : goal.fill_row-requires-clause-free
fill_row-requires-clause-free c =
    let writer = c.args.self.now in
    let taken = writer_taken writer c.args.row.0 c.requires.taken in
    taken_free writer.writer_state.table.size.rows c.args.row.0 writer.free.items writer.left.items (firsts_of writer.notes.items) (writer_state writer) writer.rows taken.0
    taken.1 taken.2

pub invariant_of-self : goal.invariant_of-self
invariant_of-self c =
    let writer = c.args.self.now in
    let size = ap (λ t. t.size.rows) c.fill_row.ensures.same in
    let row : ℕ = c.args.row.0 in
    let taken = writer_taken writer row c.requires.taken in
    let below = below_fresh writer.writer_state.table.size.rows writer.fresh row (free_of writer) (spots_of writer.notes.items) writer.places
    (omega (arith, taken.1)) taken.0 in
    record {
      rows = rw c.fill_row.ensures.same (rw c.fill_row.ensures.view
          (fill_lists writer.writer_state.table.size.rows c.args.row.0 c.args.words.now writer.free.items writer.left.items (firsts_of writer.notes.items) (node_sight writer)
          writer.rows));
      places = rw size writer.places;
      untouched = omega (arith, writer.untouched, size, c.fill_row.ensures.touched, below);
      free_room = omega (arith, writer.free_room, size);
      left_room = omega (arith, writer.left_room, size);
    }

pub returns-clause-table : goal.returns-clause-table
returns-clause-table c = λ nodes writes. record {
  same = c.fill_row.new.self.table_is ∙ ap node_table_id c.fill_row.ensures.same ∙ sym c.args.self.now.writer_state.table_is ∙ writes.same;
  size_is = ap (λ t. t.size) c.fill_row.ensures.same ∙ writes.size_is;
}
