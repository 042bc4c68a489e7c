-- For `without_note`: the words before the one that names a line.
use Rattle.std.proofs.Common.{◌≡◌, ℕ, ◌-◌, ◌<◌, ◌&&◌, nat_eq, nat_lt, List, length, take, drop, Some, None, if◌then◌else◌, refl}
use Rattle.std.specs.List.{starts_with}
use Rattle.std.proofs.lemmas.Bool.{cond_both, and_parts, ltb-true}
use Rattle.trace_reader.specs.Operations.{note, last_word, read_note, without_note}

-- where a word names a line, it is not the only one
pub note_of-length : (words : List (List ℕ)) (line : List ℕ) → read_note words ≡ Some line → 1 < length words
unfolding read_note
note_of-length words line = cond_both (nat_lt 1 (length words) && starts_with nat_eq (last_word words) note)
    (Some (drop (length note) (last_word words))) None (λ o. o ≡ Some line → 1 < length words)
    (λ e _. ltb-true 1 (length words) (and_parts (nat_lt 1 (length words)) (starts_with nat_eq (last_word words) note) e).0)
    (λ _ none. absurd cc)

-- and the others stand before it
pub without_note-named : (words : List (List ℕ)) (line : List ℕ) → read_note words ≡ Some line
    → without_note words ≡ take (length words - 1) words
unfolding without_note
without_note-named words line e = rw e refl
