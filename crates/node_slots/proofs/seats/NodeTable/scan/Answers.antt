-- For `scan`: what is freed was left out by a tree up to which every reader is cleared.
use Rattle.std.proofs.Common.{◌≡◌, ◌<◌, ◌∙◌, List, length, map, sym, ap, subst, arith, inl, inr}
use Rattle.std.proofs.lemmas.Bool.{cases_Bool}
use Rattle.grace_core.specs.declared.clearing.Clearing.{Clearing}
use Rattle.grace_core.specs.Core.{since_at}
use Rattle.grace_core.specs.Steps.{cleared_up_to}
use Rattle.grace_core.proofs.Clearings.{least_number}
use Rattle.node_slots.specs.declared.seats.NodeWriterSeat.{NodeWriterSeat}
use Rattle.node_slots.specs.Seats.{seat_sight, node_sight, writer_state}
use Rattle.node_slots.specs.Seats.{is_waiting, AreOut}
use Rattle.node_slots.specs.Kept.{firsts_of}
use Rattle.node_slots.proofs.Gone.{scanned_least}
use Rattle.node_slots.proofs.Listing.{scans_lists, waiting_past}
use Rattle.node_slots.proofs.seats.NodeTable.scan.Goals as goal

pub invariant_of-writer : goal.invariant_of-writer
invariant_of-writer c =
    let writer = c.args.writer.now in
    let told = c.scan_pins.ensures.view in
    let size = ap (λ t. t.size.rows) c.scan_pins.ensures.same in
    record {
      rows = rw c.scan_pins.ensures.same (rw told.2
          (scans_lists writer.writer_state.table.size.rows 0 told.0 writer.free.items writer.left.items (firsts_of writer.notes.items) (node_sight writer) writer.rows));
      places = rw size writer.places;
      untouched = omega (arith, writer.untouched, size, c.scan_pins.ensures.words);
      free_room = omega (arith, writer.free_room, size);
      left_room = omega (arith, writer.left_room, size);
    }

pub free_passed-requires : goal.free_passed-requires
free_passed-requires c =
    let seat = c.scan_pins.new.seat in
    let is : c.least-passed.result ≡ cleared_up_to seat.root.tree seat.clearings.items = c.least-passed.ensures
    ∙ ap (cleared_up_to seat.root.tree) c.as_slice.ensures.value in
    let most = least_number seat.root.tree seat.clearings.items in
    let reached = seat.kept.reached in
    record { passed = (omega (arith, is, reached), omega (arith, is, most, seat.kept.number_is)) }

pub returns-clause-view : goal.returns-clause-view
returns-clause-view c =
    let told = c.scan_pins.ensures.view in
    (told.0, told.1, ap seat_sight c.free_passed.ensures.writer_state ∙ told.2)

pub returns-clause-rest : goal.returns-clause-rest
returns-clause-rest c =
    let seat = c.scan_pins.new.seat in
    let writer = c.free_passed.new.self in
    let is : c.least-passed.result ≡ cleared_up_to seat.root.tree seat.clearings.items = c.least-passed.ensures
    ∙ ap (cleared_up_to seat.root.tree) c.as_slice.ensures.value in
    let same : cleared_up_to seat.root.tree seat.clearings.items ≡ cleared_up_to writer.writer_state.root.tree writer.writer_state.clearings.items =
    ap (λ (s : NodeWriterSeat). cleared_up_to s.root.tree s.clearings.items) (sym c.free_passed.ensures.writer_state) in
    let known : cleared_up_to writer.writer_state.root.tree writer.writer_state.clearings.items ≡ cleared_up_to (writer_state writer).tree.number (writer_state writer).clearings =
    ap (λ n. cleared_up_to n writer.writer_state.clearings.items) (sym writer.writer_state.kept.number_is)
    ∙ ap (cleared_up_to (writer_state writer).tree.number) (sym writer.writer_state.kept.clearings_are) in
    λ row waits. subst (λ n. n < since_at (writer_state writer).since row) (is ∙ same ∙ known) (c.free_passed.ensures.rest row waits)

pub returns-clause-gone : goal.returns-clause-gone
returns-clause-gone c =
    let old = c.args.writer.now in
    let seat = c.scan_pins.new.seat in
    let writer = c.free_passed.new.self in
    let told = c.scan_pins.ensures.view in
    let size = ap (λ t. t.size.readers) c.scan_pins.ensures.same in
    let is : c.least-passed.result ≡ cleared_up_to seat.root.tree seat.clearings.items = c.least-passed.ensures
    ∙ ap (cleared_up_to seat.root.tree) c.as_slice.ensures.value in
    let known : cleared_up_to (seat_sight seat).known.writer_state.tree.number (seat_sight seat).known.writer_state.clearings ≡ cleared_up_to seat.root.tree seat.clearings.items =
    ap (λ n. cleared_up_to n (seat_sight seat).known.writer_state.clearings) seat.kept.number_is
    ∙ ap (cleared_up_to seat.root.tree) seat.kept.clearings_are in
    let same = ap (λ s. s.readers) c.requires.table.size_is in
    let was = ap (λ (l : List Clearing). length l) old.writer_state.kept.clearings_are in
    let after = ap (λ (l : List Clearing). length l) seat.kept.clearings_are in
    let number = ap (λ (s : NodeWriterSeat). (seat_sight s).known.writer_state.tree.number) c.free_passed.ensures.writer_state in
    λ out row. elim (cases_Bool (is_waiting writer row)) [
      | inl waits ↦
          let all = scanned_least told.0 (node_sight old) (seat_sight seat) told.2 (omega (arith, told.1, was, old.writer_state.kept.readers, same))
          (omega (arith, told.1, after, seat.kept.readers, size, old.writer_state.kept.readers, same))
          (subst (λ (s : NodeWriterSeat). AreOut (map (λ (found : Clearing). found.pin) (seat_sight s).known.writer_state.clearings)) c.free_passed.ensures.writer_state out) in
          let later = c.free_passed.ensures.rest row waits in
          let past = waiting_past writer.writer_state.table.size.rows writer.free.items writer.left.items (firsts_of writer.notes.items) (writer_state writer) writer.rows row waits in
          absurd (omega (arith, all, later, past, is, known, number))
      | inr free ↦ free
    ]
