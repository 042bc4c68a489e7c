-- For `fill_piece`: what a copy out of the middle of some bytes moves, and when nothing is left.
use Rattle.std.proofs.Common.{◌≡◌, ◌<◌, ℕ, ◌+◌, List, [], ◌++◌, length, take, drop, min, sym, ap, ◌∙◌, arith, take-append-drop, length-drop}
use Rattle.std.proofs.lemmas.List.{drop-drop, drop_all}

-- the bytes from `at` on are those that were copied, and then the rest
pub left_moved : (bytes into : List ℕ) (at count : ℕ) → take count into ≡ take count (drop at bytes)
    → drop at bytes ≡ take count into ++ drop (at + count) bytes
left_moved bytes into at count same =
    sym (take-append-drop count (drop at bytes)) ∙ ap (λ front. front ++ drop count (drop at bytes)) (sym same)
    ∙ ap (λ rest. take count into ++ rest) (drop-drop count at bytes)

-- a copy of no byte into some room was one out of no bytes
pub left_none : (bytes into : List ℕ) (at count most : ℕ) → count ≡ min most (min (length (drop at bytes)) (length into))
    → 0 < most → count ≡ 0 → 0 < length into → drop (at + count) bytes ≡ []
left_none bytes into at count most is some none room =
    drop_all (at + count) bytes (let long = length-drop at bytes in omega arith)
