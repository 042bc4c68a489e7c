-- For `push_name`: the spaces before a name, and the name.
use Rattle.std.proofs.Common.{◌≡◌, ℕ, ◌<◌, ◌≤◌, List, [], ◌∷◌, ◌++◌, length, take, replicate, flat_map, ap, ◌∙◌, refl}
use Rattle.std.proofs.lemmas.List.{take-replicate}
use Rattle.std.specs.Str.{byte}
use Rattle.mm_types.specs.MapsText.{shown_byte, spaces_before, name_text}

-- a name that has bytes
pub named : (column : ℕ) (name : List ℕ) → 0 < length name
    → name_text column name ≡ replicate (spaces_before column) (byte " ") ++ flat_map shown_byte name
unfolding name_text
named column [] some = elim some [ ]
named column (c ∷ name) some = refl

-- as many of the spaces as there are to be
pub spaced : (old new : List ℕ) (column count : ℕ) → count ≡ spaces_before column → count ≤ 73
    → new ≡ old ++ take count (replicate 73 (byte " ")) → new ≡ old ++ replicate (spaces_before column) (byte " ")
spaced old new column count is few adds =
    adds ∙ ap (λ spaces. old ++ spaces) (take-replicate count 73 (byte " ") few ∙ ap (λ n. replicate n (byte " ")) is)
