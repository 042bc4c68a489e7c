-- Serves `give_all`: a text is given a piece at a time.
use Rattle.std.proofs.Common.{◌≡◌, ◌≤◌, ℕ, ◌+◌, ◌-◌, List, ◌++◌, length, take, drop, take-take, Option, Some, None, sym, ap, ◌∙◌, arith, append_assoc, length-drop, length-take}
use Rattle.std.proofs.Math.Seq.{take-add}
use Rattle.std.proofs.lemmas.List.{take_all}
use Rattle.std.specs.Io.KnownBytes.{Appends}

-- the beginning of a text that was given, and what was taken of the piece after it, are a longer one
pub appends_more : (text : List ℕ) (given count most : ℕ) (piece : List ℕ) (old mid new : Option (List ℕ))
    → piece ≡ take most (take (length text - given) (drop given text)) → count ≤ length piece
    → Appends old mid (take given text) → Appends mid new (take count piece) → Appends old new (take (given + count) text)
appends_more text given count most piece None mid new is few front more = tt
appends_more text given count most piece (Some xs) None new is few front more = absurd front
appends_more text given count most piece (Some xs) (Some ys) None is few front more = absurd more
appends_more text given count most piece (Some xs) (Some ys) (Some zs) is few front more =
    let left : take (length text - given) (drop given text) ≡ drop given text
    = take_all (length text - given) (drop given text) (omega (arith, length-drop given text)) in
    let whole : piece ≡ take most (drop given text) = is ∙ ap (take most) left in
    let within : count ≤ most = omega (arith, few, ap length whole, length-take most (drop given text)) in
    more ∙ ap (λ (p : List ℕ). ys ++ take count p) whole
    ∙ ap (λ (p : List ℕ). ys ++ p) (take-take count most (drop given text) within)
    ∙ ap (λ (before : List ℕ). before ++ take count (drop given text)) front
    ∙ append_assoc xs (take given text) (take count (drop given text))
    ∙ ap (λ (both : List ℕ). xs ++ both) (sym (take-add given count text))

-- and no longer than the text
pub within_more : (text : List ℕ) (given count most : ℕ) (piece : List ℕ) → piece ≡ take most (take (length text - given) (drop given text))
    → count ≤ length piece → given ≤ length text → given + count ≤ length text
within_more text given count most piece is few within = omega (
  arith,
  few,
  within,
  ap length is,
  length-take most (take (length text - given) (drop given text)),
  length-take (length text - given) (drop given text),
  length-drop given text,
)
