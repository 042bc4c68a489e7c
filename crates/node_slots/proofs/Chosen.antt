-- For `place_of`, `place_for` and `take_at`: which free row is taken.
use Rattle.std.proofs.Common.{ℕ, ◌≡◌, ◌<◌, ◌≤◌, ◌+◌, ◌-◌, ◌*◌, ◌∙◌, Bool, nat_lt, true, false, not, ◌&&◌, min, List, length, get_or, set, sym, ap, subst, arith}
use Rattle.std.proofs.lemmas.Bool.{both_ways, and_parts, ltb-true}
use Rattle.std.proofs.lemmas.List.{length-map, get_or-map}
use Rattle.std.specs.List.{swap_remove}
use Rattle.mm_types.specs.declared.slot.Row.{Row}
use Rattle.node_slots.specs.declared.note.RowNote.{RowNote}
use Rattle.node_slots.specs.declared.seats.NodeWriter.{NodeWriter}
use Rattle.node_slots.specs.Kept.{PlacesKept, free_numbers, firsts_of, spots_of, number_at}
use Rattle.node_slots.specs.Seats.{writer_state, free_of, row_count}
use Rattle.node_slots.specs.Choosing.{is_free_again, replaced_by, wants_fresh, takes_fresh}
use Rattle.node_slots.specs.Internal.Places.{StandsAt, IsChosen}
use Rattle.node_slots.proofs.Spots.{place_again, not_again, places_taken, taken_out, numbers_taken, once_free, free_within}

-- the free rows are as many as their numbers
free_long : (writer : NodeWriter) → length (free_of writer) ≡ length writer.free.items
free_long writer = length-map writer.free.items (λ (r : Row). r.0)

-- a row that stands behind the fresh rows is free again
stands_again : (writer : NodeWriter) (row place : ℕ) → StandsAt writer row place → is_free_again writer row ≡ true
stands_again writer row place at =
    place_again writer.fresh row place (free_of writer) at.behind (let long = free_long writer in omega (arith, long, at.inside)) at.here

-- and no other is, where it does not stand where it is noted
pub none_again : (writer : NodeWriter) (row spot : ℕ) → spot ≡ number_at (spots_of writer.notes.items) row → (StandsAt writer row spot → ⊥)
    → is_free_again writer row ≡ false
none_again writer row spot noted apart =
    let long = free_long writer in
    not_again writer.writer_state.table.size.rows writer.fresh row (free_of writer) (spots_of writer.notes.items) writer.places
    (λ behind inside here. apart (record {
      behind = omega (arith, behind, noted);
      inside = omega (arith, inside, noted, long);
      here = ap (number_at (free_of writer)) noted ∙ here;
    }))

-- the place of the row itself
pub chosen_own : (writer : NodeWriter) (row place : ℕ) → StandsAt writer row place → IsChosen writer row place
chosen_own writer row place at =
    let again = stands_again writer row place at in
    let other = is_free_again writer (replaced_by writer row) in
    record {
      inside = at.inside;
      own = λ _. at.here;
      replaced = λ out _. absurd (both_ways (is_free_again writer row) out again);
      fresh = λ takes. absurd (both_ways (not (is_free_again writer row)) (ap not again)
          (and_parts (not (is_free_again writer row)) (not other) (and_parts (not (is_free_again writer row) && not other) (wants_fresh writer) takes).0).0);
      again = λ _. at.behind;
    }

-- or else of the one that it replaced
pub chosen_replaced : (writer : NodeWriter) (row place : ℕ) → is_free_again writer row ≡ false → StandsAt writer (replaced_by writer row) place
    → IsChosen writer row place
chosen_replaced writer row place out at =
    let again = stands_again writer (replaced_by writer row) place at in
    let own = is_free_again writer row in
    let other = is_free_again writer (replaced_by writer row) in
    record {
      inside = at.inside;
      own = λ is. absurd (both_ways own out is);
      replaced = λ _ _. at.here;
      fresh = λ takes. absurd (both_ways (not other) (ap not again) (and_parts (not own) (not other) (and_parts (not own && not other) (wants_fresh writer) takes).0).1);
      again = λ _. at.behind;
    }

-- where neither is free again, a fresh row is taken where one is wanted
takes_is : (writer : NodeWriter) (row : ℕ) → is_free_again writer row ≡ false → is_free_again writer (replaced_by writer row) ≡ false
    → takes_fresh writer row ≡ wants_fresh writer
takes_is writer row out other =
    ap (λ is. (not is && not (is_free_again writer (replaced_by writer row))) && wants_fresh writer) out ∙ ap (λ is. (true && not is) && wants_fresh writer) other

pub chosen_fresh : (writer : NodeWriter) (row : ℕ) → is_free_again writer row ≡ false → is_free_again writer (replaced_by writer row) ≡ false
    → wants_fresh writer ≡ true → IsChosen writer row (writer.fresh - 1)
chosen_fresh writer row out other wants =
    let few : Bool = nat_lt (length writer.free.items - writer.fresh) (2 * (row_count writer - length writer.free.items) + 64) in
    let some : 0 < writer.fresh = ltb-true 0 writer.fresh (and_parts (nat_lt 0 writer.fresh) few wants).0 in
    let long = free_long writer in
    let all = writer.places.few in
    record {
      inside = omega (arith, some, long, all);
      own = λ is. absurd (both_ways (is_free_again writer row) out is);
      replaced = λ _ is. absurd (both_ways (is_free_again writer (replaced_by writer row)) other is);
      fresh = λ _. omega (arith, some);
      again = λ no. absurd (both_ways (takes_fresh writer row) no (takes_is writer row out other ∙ wants));
    }

pub chosen_spare : (writer : NodeWriter) (row place : ℕ) → is_free_again writer row ≡ false → is_free_again writer (replaced_by writer row) ≡ false
    → wants_fresh writer ≡ false → writer.fresh ≤ place → place < length writer.free.items → IsChosen writer row place
chosen_spare writer row place out other none behind inside = record {
  inside = inside;
  own = λ is. absurd (both_ways (is_free_again writer row) out is);
  replaced = λ _ is. absurd (both_ways (is_free_again writer (replaced_by writer row)) other is);
  fresh = λ takes. absurd (both_ways (wants_fresh writer) none (sym (takes_is writer row out other) ∙ takes));
  again = λ _. behind;
}

-- where the row at a place was taken, the last one came there, and its place is noted
pub taken_places : (writer : NodeWriter) (place : ℕ) → place < length writer.free.items → writer.fresh ≤ place + 1
    → (rest : List Row) (spots : List ℕ) (found last : Row) (at : ℕ) → rest ≡ swap_remove writer.free.items place found
    → at ≡ length writer.free.items - 1 → last ≡ get_or writer.free.items at last → spots ≡ set (spots_of writer.notes.items) last.0 place
    → PlacesKept writer.writer_state.table.size.rows (min writer.fresh place) (free_numbers rest) spots
taken_places writer place inside behind rest spots found last at rest_is at_is last_is spots_is =
    let rows : ℕ = writer.writer_state.table.size.rows in
    let long = free_long writer in
    let noted : length (spots_of writer.notes.items) ≡ length (firsts_of writer.notes.items) =
    length-map writer.notes.items (λ (n : RowNote). n.spot) ∙ sym (length-map writer.notes.items (λ (n : RowNote). n.first)) in
    let place_is : length (free_of writer) - 1 ≡ at = omega (arith, long, at_is) in
    let number : number_at (free_of writer) (length (free_of writer) - 1) ≡ last.0 =
    ap (number_at (free_of writer)) place_is
    ∙ get_or-map (λ (r : Row). r.0) writer.free.items at last 0 (omega (arith, at_is, inside)) ∙ ap (λ (r : Row). r.0) (sym last_is) in
    let within = free_within rows writer.free.items writer.left.items (firsts_of writer.notes.items) (writer_state writer) writer.rows (length writer.free.items - 1)
    (omega (arith, inside)) in
    let within_at : number_at (free_of writer) (length (free_of writer) - 1) < rows =
    subst (λ n. number_at (free_of writer) (n - 1) < rows) (sym long) within in
    let taken = places_taken rows writer.fresh place (free_of writer) (spots_of writer.notes.items) writer.places
    (once_free rows writer.free.items writer.left.items (firsts_of writer.notes.items) (writer_state writer) writer.rows)
    (omega (arith, inside, long)) behind (omega (arith, within_at, noted, writer.rows.sized)) in
    let rest_numbers : free_numbers rest ≡ taken_out (free_of writer) place =
    ap free_numbers rest_is ∙ numbers_taken writer.free.items place found (omega (arith, inside)) in
    let spots_are : spots ≡ set (spots_of writer.notes.items) (number_at (free_of writer) (length (free_of writer) - 1)) place =
    spots_is ∙ ap (λ n. set (spots_of writer.notes.items) n place) (sym number) in
    subst (λ (l : List ℕ). PlacesKept rows (min writer.fresh place) l spots) (sym rest_numbers)
    (subst (λ (l : List ℕ). PlacesKept rows (min writer.fresh place) (taken_out (free_of writer) place) l) (sym spots_are) taken)
