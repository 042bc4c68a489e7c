-- For `take_at`: the row is one of the table, and the lists keep what they keep.
use Rattle.std.proofs.Common.{ℕ, ◌≡◌, ◌+◌, ◌-◌, ◌∙◌, min, List, ◌∷◌, ◌++◌, [], length, set, get_or, refl, sym, ap, subst, arith}
use Rattle.std.specs.Prelude.{IfSome}
use Rattle.std.specs.List.{swap_remove}
use Rattle.std.specs.List.Sorted.{IsPermutation}
use Rattle.std.proofs.lemmas.List.{length-map, map-set, get_or-map}
use Rattle.std.proofs.lemmas.List.Sorted.{IsPermutation-map}
use Rattle.mm_types.specs.declared.slot.Row.{Row}
use Rattle.node_slots.specs.declared.note.RowNote.{RowNote}
use Rattle.node_slots.specs.Kept.{RowsKept, PlacesKept, firsts_of, spots_of, free_numbers}
use Rattle.node_slots.proofs.Listing.{gone_few, take_lists, take_is_taken, take_within}
use Rattle.node_slots.proofs.Notes.{spots_same, replaced_same}
use Rattle.node_slots.proofs.Spots.{taken_rows}
use Rattle.node_slots.proofs.Chosen.{taken_places}
use Rattle.node_slots.proofs.seats.NodeWriter.take_at.Goals as goal

pub note_spot-requires : goal.note_spot-requires
note_spot-requires c =
    let writer = c.args.self.now in
    let all = gone_few _ _ _ _ _ writer.rows in
    omega (arith, all, c.requires.inside, writer.writer_state.table.sized.fits.few_rows)

pub index_mut-requires : goal.index_mut-requires
index_mut-requires c =
    let writer = c.args.self.now in
    let row : Row = c.unwrap-row.result in
    let rest : List Row = c.swap_remove_back.new.self.items in
    let moved : IsPermutation writer.free.items (row ∷ rest) =
    subst (λ o. IfSome o (λ y. IsPermutation writer.free.items (y ∷ rest))) c.unwrap-row.ensures c.swap_remove_back.ensures.permutation in
    let kept = taken_rows writer.writer_state.table.size.rows row writer.free.items rest writer.left.items (firsts_of writer.notes.items) writer.writer_state.seat.me.0.known.writer_state
    moved writer.rows in
    let within = take_within _ _ _ _ _ _ kept in
    omega (arith, within, kept.sized, ap (λ (l : List ℕ). length l) c.note_spot.ensures.firsts, length-map c.note_spot.new.notes.items (λ (n : RowNote). n.first))

pub invariant_of-self : goal.invariant_of-self
invariant_of-self c =
    let writer = c.args.self.now in
    let row : Row = c.unwrap-row.result in
    let rest : List Row = c.swap_remove_back.new.self.items in
    let moved : IsPermutation writer.free.items (row ∷ rest) =
    subst (λ o. IfSome o (λ y. IsPermutation writer.free.items (y ∷ rest))) c.unwrap-row.ensures c.swap_remove_back.ensures.permutation in
    let rest_is : rest ≡ swap_remove writer.free.items c.args.place row =
    subst (λ o. IfSome o (λ y. rest ≡ swap_remove writer.free.items c.args.place y)) c.unwrap-row.ensures c.swap_remove_back.ensures.items in
    let kept = taken_rows writer.writer_state.table.size.rows row writer.free.items rest writer.left.items (firsts_of writer.notes.items) writer.writer_state.seat.me.0.known.writer_state
    moved writer.rows in
    let notes : List RowNote = c.note_spot.new.notes.items in
    let noted : RowNote = record c.index_mut.result.now { first = writer.writer_state.root.tree + 1 } in
    record {
      rows = subst (λ (l : List ℕ). RowsKept writer.writer_state.table.size.rows rest writer.left.items l writer.writer_state.seat.me.0.known.writer_state)
          (sym (map-set (λ (n : RowNote). n.first) notes row.0 _ ∙ ap (λ (l : List ℕ). set l row.0 (writer.writer_state.root.tree + 1)) c.note_spot.ensures.firsts))
          (subst (λ n. RowsKept writer.writer_state.table.size.rows rest writer.left.items
          (set (firsts_of writer.notes.items) row.0 (n + 1)) writer.writer_state.seat.me.0.known.writer_state)
          writer.writer_state.kept.number_is (take_lists _ _ _ _ _ _ kept));
      places = subst (λ n. PlacesKept writer.writer_state.table.size.rows n (free_numbers rest) (spots_of (set notes row.0 noted))) (sym c.min-self.ensures)
          (taken_places writer c.args.place c.requires.inside c.requires.behind rest (spots_of (set notes row.0 noted)) row c.index-last.result.now (c.len.result - 1) rest_is
          (omega (arith, c.len.ensures, writer.free.ok)) c.index-last.ensures
          (spots_same notes row.0 c.index_mut.result.now noted c.index_mut.ensures.value refl ∙ c.note_spot.ensures.spots));
      untouched = omega (arith, writer.untouched, c.min-self.ensures);
      free_room = omega (arith, writer.free_room, c.swap_remove_back.ensures.capacity);
      left_room = writer.left_room;
    }

pub returns-clause-free : goal.returns-clause-free
returns-clause-free c =
    let writer = c.args.self.now in
    let rest : List Row = c.swap_remove_back.new.self.items in
    IsPermutation-map (λ (r : Row). r.0) _ _
    (subst (λ o. IfSome o (λ y. IsPermutation writer.free.items (y ∷ rest))) c.unwrap-row.ensures c.swap_remove_back.ensures.permutation)

pub returns-clause-taken : goal.returns-clause-taken
returns-clause-taken c =
    let writer = c.args.self.now in
    let row : Row = c.unwrap-row.result in
    let rest : List Row = c.swap_remove_back.new.self.items in
    let moved : IsPermutation writer.free.items (row ∷ rest) =
    subst (λ o. IfSome o (λ y. IsPermutation writer.free.items (y ∷ rest))) c.unwrap-row.ensures c.swap_remove_back.ensures.permutation in
    let kept = taken_rows writer.writer_state.table.size.rows row writer.free.items rest writer.left.items (firsts_of writer.notes.items) writer.writer_state.seat.me.0.known.writer_state
    moved writer.rows in
    rw writer.writer_state.kept.size_is (take_is_taken _ _ _ _ _ _ kept)

pub returns-clause-replaced : goal.returns-clause-replaced
returns-clause-replaced c =
    replaced_same c.note_spot.new.notes.items c.unwrap-row.result.0 c.index_mut.result.now _ c.index_mut.ensures.value refl ∙ c.note_spot.ensures.replaced
