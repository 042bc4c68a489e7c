-- For `wants_fresh`: the free rows are rows of the table.
use Rattle.std.proofs.Common.{arith}
use Rattle.std.proofs.lemmas.List.{length-map}
use Rattle.node_slots.specs.declared.note.RowNote.{RowNote}
use Rattle.node_slots.proofs.Listing.{gone_few}
use Rattle.node_slots.proofs.seats.NodeWriter.wants_fresh.Goals as goal

pub overflow_sub-used : goal.overflow_sub-used
overflow_sub-used c =
    let writer = c.args.self.now in
    let all = gone_few _ _ _ _ _ writer.rows in
    omega (arith, all, c.len-free.ensures, c.len.ensures, writer.free.ok, writer.rows.sized, length-map writer.notes.items (λ (n : RowNote). n.first))
