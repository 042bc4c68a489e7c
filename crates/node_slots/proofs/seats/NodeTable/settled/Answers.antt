-- For `settled`: the first of the queue left first.
use Rattle.std.proofs.Common.{◌≡◌, ◌<◌, ◌-◌, ◌∙◌, length, refl, ap, arith}
use Rattle.node_slots.specs.declared.left.Left.{Left}
use Rattle.node_slots.specs.Kept.{left_at, no_left, firsts_of}
use Rattle.node_slots.specs.Seats.{writer_state}
use Rattle.node_slots.proofs.Seating.{read_any}
use Rattle.node_slots.proofs.Listing.{waiting_after, elapsed_greatest}
use Rattle.node_slots.proofs.seats.NodeTable.settled.Goals as goal

pub returns-in-Some-clause-most : goal.returns-in-Some-clause-most
returns-in-Some-clause-most c =
    let writer = c.args.writer.now in
    let some : 0 < length writer.left.items = omega (arith, c.in-Some.ensures.variant.0 refl, writer.left.ok) in
    let first : c.in-Some.first.now ≡ left_at writer.left.items 0 = c.in-Some.ensures.lookup
    ∙ read_any writer.left.items 0 c.in-Some.first.now no_left some in
    omega (arith, ap (λ (l : Left). l.since) first, (writer.rows.queue 0 some).most)

pub returns-in-Some-clause-none : goal.returns-in-Some-clause-none
returns-in-Some-clause-none c =
    let writer = c.args.writer.now in
    let some : 0 < length writer.left.items = omega (arith, c.in-Some.ensures.variant.0 refl, writer.left.ok) in
    let first : c.in-Some.first.now ≡ left_at writer.left.items 0 = c.in-Some.ensures.lookup
    ∙ read_any writer.left.items 0 c.in-Some.first.now no_left some in
    waiting_after writer.writer_state.table.size.rows (c.in-Some.first.now.since - 1) writer.free.items writer.left.items (firsts_of writer.notes.items) (writer_state writer)
    writer.rows
    (λ _. omega (arith, ap (λ (l : Left). l.since) first, (writer.rows.queue 0 some).some))

pub returns-in-Some-clause-greatest : goal.returns-in-Some-clause-greatest
returns-in-Some-clause-greatest c =
    let writer = c.args.writer.now in
    let some : 0 < length writer.left.items = omega (arith, c.in-Some.ensures.variant.0 refl, writer.left.ok) in
    let first : c.in-Some.first.now ≡ left_at writer.left.items 0 = c.in-Some.ensures.lookup
    ∙ read_any writer.left.items 0 c.in-Some.first.now no_left some in
    λ tree below each.
    let less = elapsed_greatest writer.writer_state.table.size.rows tree writer.free.items writer.left.items (firsts_of writer.notes.items) (writer_state writer) writer.rows
    some below each in
    omega (arith, less, ap (λ (l : Left). l.since) first)
