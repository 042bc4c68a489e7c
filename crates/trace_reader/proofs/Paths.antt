-- For `unescaped`: newlines in paths, and the four characters that stand for them.
use Rattle.std.proofs.Common.{◌≡◌, ℕ, suc, ◌<◌, ◌≤◌, List, [], ◌∷◌, ◌++◌, length, take, drop, codes, None, append_assoc, take-append-drop, bytes_eq, refl, sym, ap, ◌∙◌, subst, arith}
use Rattle.std.specs.Str.Pattern.{LacksTextAt, FindsText, SplitsAroundMatch}
use Rattle.std.proofs.lemmas.Bool.{cond-false, false_from_ne_true}
use Rattle.std.proofs.lemmas.Slice.Eq.{bytes_eq-Decides}
use Rattle.trace_reader.specs.Settings.{unescaped}

-- the four characters
abbrev pub escape : List ℕ
escape = 92 ∷ codes "012"

-- where they do not begin, the first byte stays
unescaped-cons : (a : ℕ) (text : List ℕ) → LacksTextAt escape (a ∷ text) 0 → unescaped (a ∷ text) ≡ a ∷ unescaped text
unfolding unescaped
unescaped-cons a [] lacks = refl
unescaped-cons a (b ∷ []) lacks = refl
unescaped-cons a (b ∷ c ∷ []) lacks = refl
unescaped-cons a (b ∷ c ∷ d ∷ text) lacks =
    cond-false (bytes_eq (a ∷ b ∷ c ∷ d ∷ []) escape) (10 ∷ unescaped text) (a ∷ unescaped (b ∷ c ∷ d ∷ text))
    (false_from_ne_true _ (λ same. lacks text (ap (λ (front : List ℕ). front ++ text)
    ((bytes_eq-Decides (a ∷ b ∷ c ∷ d ∷ []) escape).0 same))))

-- where they stand nowhere, all bytes stay
pub unescaped-none : (text : List ℕ) → ((i : ℕ) → i ≤ length text → LacksTextAt escape text i) → unescaped text ≡ text
unfolding unescaped
unescaped-none [] lacks = refl
unescaped-none (a ∷ text) lacks = unescaped-cons a text (lacks 0 (omega arith))
    ∙ ap (λ (rest : List ℕ). a ∷ rest) (unescaped-none text (λ i within. lacks (suc i) (omega arith)))

-- the bytes before they first stand stay
pub unescaped-first : (before after : List ℕ) → ((i : ℕ) → i < length before
    → LacksTextAt escape (before ++ (escape ++ after)) i) →
    unescaped (before ++ (escape ++ after)) ≡ before ++ (10 ∷ unescaped after)
unfolding unescaped
unescaped-first [] after lacks = refl
unescaped-first (a ∷ before) after lacks =
    unescaped-cons a (before ++ (escape ++ after)) (lacks 0 (omega arith))
    ∙ ap (λ (rest : List ℕ). a ∷ rest) (unescaped-first before after (λ i within. lacks (suc i) (omega arith)))

-- a text that is cut where they first stand
parts : (text before after : List ℕ) (i j : ℕ) → before ≡ take i text → after ≡ drop j text
    → drop i text ≡ escape ++ drop j text → text ≡ before ++ (escape ++ after)
parts text before after i j front back split =
    sym (take-append-drop i text) ∙ ap (λ (rest : List ℕ). take i text ++ rest) split
    ∙ ap (λ (rest : List ℕ). take i text ++ (escape ++ rest)) (sym back)
    ∙ ap (λ (first : List ℕ). first ++ (escape ++ after)) (sym front)

-- what is read before it, and the newline, go to the path
pub unescaped-more : (path all text before after : List ℕ) → SplitsAroundMatch (FindsText escape) text before after
    → path ++ unescaped text ≡ all →
    ((path ++ before) ++ 10 ∷ []) ++ unescaped after ≡ all
unescaped-more path all text before after (i, j, found, front, back, order, len, rest) so_far =
    let whole : text ≡ before ++ (escape ++ after) = parts text before after i j front back found.1.split in
    let lacks : (k : ℕ) → k < length before → LacksTextAt escape (before ++ (escape ++ after)) k =
    λ k within. subst (λ (t : List ℕ). LacksTextAt escape t k) whole (found.0 k (omega arith)) in
    append_assoc (path ++ before) (10 ∷ []) (unescaped after)
    ∙ append_assoc path before (10 ∷ unescaped after)
    ∙ ap (λ (more : List ℕ). path ++ more) (sym (unescaped-first before after lacks) ∙ ap unescaped (sym whole))
    ∙ so_far

-- and at last what holds none of them
pub unescaped-end : (path all text : List ℕ) → FindsText escape text None → path ++ unescaped text ≡ all
    → path ++ text ≡ all
unescaped-end path all text none so_far = ap (λ (more : List ℕ). path ++ more) (sym (unescaped-none text none)) ∙ so_far
