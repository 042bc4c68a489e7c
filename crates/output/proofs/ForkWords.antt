-- For `begins_with_fork`: the first two words of a text.
use Rattle.std.proofs.Common.{◌≡◌, ℕ, ◌<◌, Bool, true, false, not, ◌&&◌, cond, List, [], ◌∷◌, length, take, codes, bytes_eq, suc, ◌+◌, refl, sym, ap, subst, ◌∙◌, arith}
use Rattle.std.specs.List.{position_or_len, before_first}
use Rattle.text_lexer.specs.Words.{is_blank, is_part, begins_with_digit, words_of, after_blanks, after_word, text_after_words}
use Rattle.text_lexer.proofs.WordParts.{IsAtWord, after_blanks-at_word, words_of-after_blanks, words_more, words_end}
use Rattle.output.specs.Internal.Forks.{are_fork_words}
use Rattle.output.proofs.Children.{names_fork, are_fork_words-is}

-- the first word of a text that begins with one, and those behind it
words_parted : (text : List ℕ) → 0 < length text → IsAtWord text
    → words_of text ≡ before_first is_blank text ∷ words_of (after_blanks (after_word text))
words_parted text some at_word =
    sym (words_more [] (words_of text) text (before_first is_blank text) (after_blanks (after_word text)) some at_word refl refl refl)

no_words : [] ≡ words_of []
no_words = words_end [] (words_of []) [] refl refl

-- that word begins as the text does
digit_in_front : (text : List ℕ) → IsAtWord text → begins_with_digit (before_first is_blank text) ≡ begins_with_digit text
unfolding begins_with_digit
digit_in_front [] at_word = refl
digit_in_front (c ∷ text) at_word = by_blank (is_blank c) refl
  where
    by_blank : (blank : Bool) → is_blank c ≡ blank → begins_with_digit (before_first is_blank (c ∷ text)) ≡ begins_with_digit (c ∷ text)
    by_blank true e =
        let none : 1 + position_or_len is_part text ≡ 0 = subst
        (λ (b : Bool). cond (not (not b)) (1 + position_or_len is_part text) 0 ≡ 0) e at_word in
        absurd (omega arith)
    by_blank false e =
        let next : 1 + position_or_len is_blank text ≡ suc (position_or_len is_blank text) = omega arith in
        ap (λ (b : Bool). begins_with_digit (take (cond (not b) (1 + position_or_len is_blank text) 0) (c ∷ text))) e
        ∙ ap (λ (n : ℕ). begins_with_digit (take n (c ∷ text))) next

-- whether the first word is `fork`
first_named : (text : List ℕ) → IsAtWord text → names_fork (words_of text) ≡ bytes_eq (before_first is_blank text) (codes "fork")
first_named [] at_word = ap names_fork (sym no_words)
first_named (c ∷ text) at_word = ap names_fork (words_parted (c ∷ text) (omega arith) at_word)

-- by what stands where the first two words begin, whether a text forks
pub fork_words : (text : List ℕ) → (begins_with_digit (text_after_words 0 text)
    && bytes_eq (before_first is_blank (text_after_words 1 text)) (codes "fork")) ≡ are_fork_words (words_of text)
unfolding text_after_words are_fork_words begins_with_digit
fork_words text = by_first (after_blanks text) (after_blanks-at_word text) ∙ ap are_fork_words (words_of-after_blanks text)
  where
    by_first : (rest : List ℕ) → IsAtWord rest → (begins_with_digit rest
        && bytes_eq (before_first is_blank (after_blanks (after_word rest))) (codes "fork")) ≡ are_fork_words (words_of rest)
    by_first [] at_word = ap are_fork_words no_words
    by_first (c ∷ rest) at_word =
        let behind = after_blanks (after_word (c ∷ rest)) in
        ap (λ (named : Bool). begins_with_digit (c ∷ rest) && named) (sym (first_named behind (after_blanks-at_word (after_word (c ∷ rest)))))
        ∙ sym (are_fork_words-is (before_first is_blank (c ∷ rest)) (words_of behind) (begins_with_digit (c ∷ rest)) (digit_in_front (c ∷ rest) at_word))
        ∙ ap are_fork_words (sym (words_parted (c ∷ rest) (omega arith) at_word))
