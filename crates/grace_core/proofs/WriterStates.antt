-- For `GraceWriter`: what the fields show after a change.
use Rattle.std.proofs.Common.{ℕ, zero, suc, ◌≡◌, ◌<◌, ◌+◌, ◌∙◌, true, false, min, List, [], ◌∷◌, length, set, drop, replicate, get_or, refl, ap}
use Rattle.std.proofs.lemmas.Bool.{cond-true, cond-false}
use Rattle.std.proofs.lemmas.List.{at_drop_more}
use Rattle.grace_core.specs.declared.clearing.Clearing.{Clearing}
use Rattle.grace_core.specs.Core.{row_at}
use Rattle.grace_core.specs.Steps.{cleared_up_to}
use Rattle.grace_core.specs.Internal.Trees.{rows_of_words}

-- a word of one row changes
pub rows_of-set : (words : List ℕ) (row word : ℕ) → rows_of_words (set words row word) ≡ set (rows_of_words words) row (set (row_at (rows_of_words words) row) 0 word)
rows_of-set [] row word = refl
rows_of-set (one ∷ others) zero word = refl
rows_of-set (one ∷ others) (suc row) word = ap (λ rows. (one ∷ []) ∷ rows) (rows_of-set others row word)

-- all words are the same
pub rows_of-replicate : (count word : ℕ) → rows_of_words (replicate count word) ≡ replicate count (word ∷ [])
rows_of-replicate zero word = refl
rows_of-replicate (suc count) word = ap (λ rows. (word ∷ []) ∷ rows) (rows_of-replicate count word)

-- the least of what is left, where the next reader was joined away
pub least_gone : (number : ℕ) (clearings : List Clearing) (i : ℕ) (d : Clearing) → i < length clearings → (get_or clearings i d).joined ≡ true
    → cleared_up_to number (drop i clearings) ≡ cleared_up_to number (drop (i + 1) clearings)
least_gone number clearings i d within gone =
    let one = get_or clearings i d in
    let rest = cleared_up_to number (drop (i + 1) clearings) in
    at_drop_more (cleared_up_to number) clearings i d within ∙ cond-true {A = ℕ} one.joined rest (min one.cleared rest) gone

-- and where the next reader counts
pub least_here : (number : ℕ) (clearings : List Clearing) (i : ℕ) (d : Clearing) → i < length clearings → (get_or clearings i d).joined ≡ false
    → cleared_up_to number (drop i clearings) ≡ min (get_or clearings i d).cleared (cleared_up_to number (drop (i + 1) clearings))
least_here number clearings i d within here =
    let one = get_or clearings i d in
    let rest = cleared_up_to number (drop (i + 1) clearings) in
    at_drop_more (cleared_up_to number) clearings i d within ∙ cond-false {A = ℕ} one.joined rest (min one.cleared rest) here
