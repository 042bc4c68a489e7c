-- For `NodeTable::leave`, `NodeTable::publish` and others: what a writer's lists tell of a row.
use Rattle.std.proofs.Common.{ℕ, ◌≡◌, ◌<◌, ◌≤◌, ◌+◌, ◌^◌, ◌∙◌, true, false, cond, nat_eq, List, [], ◌∷◌, ◌++◌, length, set, get_or, refl, sym, ap, subst, arith, inl, inr}
use Rattle.std.proofs.lemmas.Bool.{cases_Bool, cond-true, cond-false, ltb-true}
use Rattle.std.proofs.lemmas.List.{length-map, map-append}
use Rattle.mm_types.specs.declared.slot.Row.{Row}
use Rattle.grace_core.specs.Core.{times, has_row}
use Rattle.maple_node.specs.Levels as levels
use Rattle.maple_node.specs.Levels.{at_of}
use Rattle.maple_node.specs.Trees.{tree_of, IsLayout}
use Rattle.maple_node.proofs.Trees.{root-once}
use Rattle.node_slots.specs.declared.view.ShownTree.{ShownTree}
use Rattle.node_slots.specs.declared.note.RowNote.{RowNote}
use Rattle.node_slots.specs.declared.seats.NodeWriter.{NodeWriter}
use Rattle.node_slots.specs.Trees.{shown_rows}
use Rattle.node_slots.specs.Plays.{RowsExist}
use Rattle.node_slots.specs.Kept.{times_gone, free_numbers, firsts_of, first_at, spots_of, PlacesKept}
use Rattle.node_slots.specs.Seats.{node_sight, writer_state, is_kept, is_taken_row, is_present, ReachesNewRows}
use Rattle.node_slots.proofs.Counting.{times_first}
use Rattle.node_slots.proofs.Notes.{read_first}
use Rattle.node_slots.proofs.Spots.{places_pushed}
use Rattle.node_slots.proofs.Listing.{kept_parts, kept_from, taken_parts}

-- a row that is neither free nor left
pub writer_kept : (writer : NodeWriter) (row : ℕ) → is_kept writer row ≡ true
    → (row < writer.writer_state.table.size.rows) × (times_gone writer.free.items writer.left.items row ≡ 0)
writer_kept writer row is =
    let parts = kept_parts (node_sight writer).size.rows row (times_gone writer.free.items writer.left.items row) is in
    (subst (λ s. row < s.rows) writer.writer_state.kept.size_is parts.0, parts.1)

-- and the first tree that may have it, as it was read
pub writer_first : (writer : NodeWriter) (row : ℕ) (found : RowNote) → is_kept writer row ≡ true → found ≡ get_or writer.notes.items row found
    → first_at (firsts_of writer.notes.items) row ≡ found.first
writer_first writer row found is read =
    let kept = writer_kept writer row is in
    let long = length-map writer.notes.items (λ (n : RowNote). n.first) in
    read_first writer.notes.items row found (omega (arith, kept.0, writer.rows.sized, long)) read

-- a row that was taken
pub writer_taken : (writer : NodeWriter) (row : ℕ) → is_taken_row writer row ≡ true
    → (row < writer.writer_state.table.size.rows) × (times_gone writer.free.items writer.left.items row ≡ 0) × (has_row (writer_state writer).tree row ≡ false)
writer_taken writer row is =
    let parts = taken_parts (node_sight writer).size.rows row (times_gone writer.free.items writer.left.items row) (is_present writer row) is in
    (subst (λ s. row < s.rows) writer.writer_state.kept.size_is parts.0, parts.1, parts.2)

-- no row that is free or left is a new one
pub new_not_gone : (writer : NodeWriter) (shown : ShownTree) → ReachesNewRows writer shown → (row : ℕ)
    → 1 ≤ times_gone writer.free.items writer.left.items row → times row (shown_rows shown) ≡ 0
new_not_gone writer shown reaches row some = elim (cases_Bool (is_kept writer row)) [
  | inl kept ↦ absurd (let parts = writer_kept writer row kept in omega (arith, some, parts.1))
  | inr out ↦ reaches row ∙ cond-false {A = ℕ} (is_kept writer row) 1 0 out
]

-- and each other is
pub new_all : (writer : NodeWriter) (shown : ShownTree) → ReachesNewRows writer shown → (row : ℕ) → row < writer.writer_state.table.size.rows
    → times_gone writer.free.items writer.left.items row ≡ 0 → 1 ≤ times row (shown_rows shown)
new_all writer shown reaches row within none =
    let kept : is_kept writer row ≡ true =
    kept_from (node_sight writer).size.rows row (times_gone writer.free.items writer.left.items row)
    (subst (λ s. row < s.rows) (sym writer.writer_state.kept.size_is) within) none in
    omega (arith, reaches row, cond-true {A = ℕ} (is_kept writer row) 1 0 kept)

-- a row that is reached exists
new_within : (writer : NodeWriter) (shown : ShownTree) → ReachesNewRows writer shown → (row : ℕ) → 1 ≤ times row (shown_rows shown)
    → row < writer.writer_state.table.size.rows
new_within writer shown reaches row some = elim (cases_Bool (is_kept writer row)) [
  | inl kept ↦ (writer_kept writer row kept).0
  | inr out ↦ absurd (omega (arith, some, reaches row, cond-false {A = ℕ} (is_kept writer row) 1 0 out))
]

pub new_exist : (writer : NodeWriter) (shown : ShownTree) → ReachesNewRows writer shown → RowsExist (node_sight writer).size.rows shown
new_exist writer shown reaches row here =
    subst (λ s. row < s.rows) (sym writer.writer_state.kept.size_is) (new_within writer shown reaches row (ltb-true 0 (times row (shown_rows shown)) here))

-- both ways to count say the same
pub times_same : (row : ℕ) (rows : List ℕ) → levels.times_among row rows ≡ times row rows
times_same row [] = refl
times_same row (other ∷ rows) = ap (λ n. cond (nat_eq other row) 1 0 + n) (times_same row rows) ∙ sym (times_first row other rows)

-- the root of a tree is a row that exists
pub root_within : (writer : NodeWriter) (shown : ShownTree) (slots : ℕ) → ReachesNewRows writer shown
    → IsLayout (at_of shown.words) slots (tree_of (at_of shown.words) shown.root) → shown.root.row.0 < 2 ^ 20
unfolding shown_rows
root_within writer shown slots reaches layout =
    let once : levels.times_among shown.root.row.0 (shown_rows shown) ≡ 1 = root-once (at_of shown.words) slots (tree_of (at_of shown.words) shown.root) layout in
    let some : 1 ≤ times shown.root.row.0 (shown_rows shown) = omega (arith, once, times_same shown.root.row.0 (shown_rows shown)) in
    omega (arith, new_within writer shown reaches shown.root.row.0 some, writer.writer_state.table.sized.fits.few_rows)

-- a row that was not free came into the free list, and its place is noted
pub pushed_places : (writer : NodeWriter) (row : Row) → times row.0 (free_numbers writer.free.items) ≡ 0 → row.0 < writer.writer_state.table.size.rows
    → (spot : ℕ) (free : List Row) (spots : List ℕ) → free ≡ writer.free.items ++ row ∷ [] → spots ≡ set (spots_of writer.notes.items) row.0 spot
    → spot ≡ length writer.free.items
    → PlacesKept writer.writer_state.table.size.rows writer.fresh (free_numbers free) spots
pushed_places writer row none within spot free spots free_is spots_is at =
    let number : Row → ℕ = λ r. r.0 in
    let before : List ℕ = free_numbers writer.free.items in
    let noted : length (spots_of writer.notes.items) ≡ length (firsts_of writer.notes.items) =
    length-map writer.notes.items (λ (n : RowNote). n.spot) ∙ sym (length-map writer.notes.items (λ (n : RowNote). n.first)) in
    let pushed = places_pushed writer.writer_state.table.size.rows writer.fresh row.0 before (spots_of writer.notes.items) writer.places
    (omega (arith, none)) (omega (arith, within, noted, writer.rows.sized)) in
    let free_same : free_numbers free ≡ before ++ row.0 ∷ [] = ap free_numbers free_is ∙ map-append number writer.free.items (row ∷ []) in
    let spots_same : spots ≡ set (spots_of writer.notes.items) row.0 (length before) =
    spots_is ∙ ap (set (spots_of writer.notes.items) row.0) (at ∙ sym (length-map writer.free.items number)) in
    subst (λ (l : List ℕ). PlacesKept writer.writer_state.table.size.rows writer.fresh l spots) (sym free_same)
    (subst (λ (l : List ℕ). PlacesKept writer.writer_state.table.size.rows writer.fresh (before ++ row.0 ∷ []) l) (sym spots_same) pushed)
