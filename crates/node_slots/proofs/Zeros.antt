-- For `FirstWords`: words that are zeros but for the first.
use Rattle.std.proofs.Common.{ℕ, zero, suc, ◌≡◌, ◌≤◌, ◌∙◌, refl, ap, List, [], ◌∷◌, length, get_or, set, take, replicate, arith}
use Rattle.std.proofs.lemmas.List.{take-replicate}
use Rattle.node_slots.specs.Opening.{HasZeros}

-- so many of the words
pub zeros_taken : (words : List ℕ) (count : ℕ) → HasZeros words → count ≤ length words
    → take count words ≡ set (replicate {A = ℕ} count 0) 0 (get_or words 0 0)
zeros_taken words zero has within = refl
zeros_taken [] (suc count) has within = absurd (omega arith)
zeros_taken (word ∷ words) (suc count) has within =
    ap (take (suc count)) has.zeros ∙ ap (λ (l : List ℕ). word ∷ l) (take-replicate count (length words) 0 (omega arith))
