-- For `note_spot`, `NodeTable::leave` and others: what the writer remembers of each row.
use Rattle.std.proofs.Common.{ℕ, zero, suc, ◌≡◌, ◌<◌, ◌∙◌, refl, sym, ap, List, ◌∷◌, length, get_or, set, replicate}
use Rattle.std.proofs.Math.Seq.{map-set_same}
use Rattle.std.proofs.lemmas.List.{get_or-map}
use Rattle.node_slots.specs.declared.note.RowNote.{RowNote}
use Rattle.mm_types.specs.declared.slot.Row.{Row}
use Rattle.node_slots.specs.Kept.{firsts_of, first_at, spots_of, replaced_of}

-- a note with the same first tree in the place of another
pub note_same : (notes : List RowNote) (row : ℕ) (old new : RowNote) → old ≡ get_or notes row old → new.first ≡ old.first
    → firsts_of (set notes row new) ≡ firsts_of notes
note_same notes row old new was same =
    map-set_same (λ (n : RowNote). n.first) notes row new old (same ∙ ap (λ (n : RowNote). n.first) was)

-- all notes are the same
pub firsts_new : (count : ℕ) (note : RowNote) → firsts_of (replicate count note) ≡ replicate {A = ℕ} count note.first
firsts_new zero note = refl
firsts_new (suc count) note = ap (λ (l : List ℕ). note.first ∷ l) (firsts_new count note)

-- the first tree of a note that was read
pub read_first : (notes : List RowNote) (row : ℕ) (found : RowNote) → row < length notes → found ≡ get_or notes row found
    → first_at (firsts_of notes) row ≡ found.first
read_first notes row found within read =
    get_or-map (λ (n : RowNote). n.first) notes row found 0 within ∙ ap (λ (n : RowNote). n.first) (sym read)

-- a note that was changed in one part alone
pub spots_same : (notes : List RowNote) (row : ℕ) (old new : RowNote) → old ≡ get_or notes row old → new.spot ≡ old.spot
    → spots_of (set notes row new) ≡ spots_of notes
spots_same notes row old new was same =
    map-set_same (λ (n : RowNote). n.spot) notes row new old (same ∙ ap (λ (n : RowNote). n.spot) was)

pub replaced_same : (notes : List RowNote) (row : ℕ) (old new : RowNote) → old ≡ get_or notes row old → new.replaced ≡ old.replaced
    → replaced_of (set notes row new) ≡ replaced_of notes
replaced_same notes row old new was same =
    map-set_same (λ (n : RowNote). n.replaced.0) notes row new old (ap (λ (r : Row). r.0) same ∙ ap (λ (n : RowNote). n.replaced.0) was)

-- the place that a note has, as it was read
pub read_spot : (notes : List RowNote) (row : ℕ) (found : RowNote) → row < length notes → found ≡ get_or notes row found
    → get_or (spots_of notes) row 0 ≡ found.spot
read_spot notes row found within read =
    get_or-map (λ (n : RowNote). n.spot) notes row found 0 within ∙ ap (λ (n : RowNote). n.spot) (sym read)

-- and the row that it replaced
pub read_replaced : (notes : List RowNote) (row : ℕ) (found : RowNote) → row < length notes → found ≡ get_or notes row found
    → get_or (replaced_of notes) row 0 ≡ found.replaced.0
read_replaced notes row found within read =
    get_or-map (λ (n : RowNote). n.replaced.0) notes row found 0 within ∙ ap (λ (n : RowNote). n.replaced.0) (sym read)
