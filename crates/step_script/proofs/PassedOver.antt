-- For `is_passed_over`: the first word of a text, without a list of its words.
use Rattle.std.proofs.Common.{◌≡◌, ℕ, Bool, true, false, not, ◌||◌, cond, nat_eq, List, [], ◌∷◌, length, take, suc, ◌+◌, refl, sym, ap, subst, ◌∙◌, arith}
use Rattle.std.specs.List.{position_or_len, before_first}
use Rattle.text_lexer.specs.Words.{is_blank, is_part, is_comment, words_of, after_blanks, text_after_words}
use Rattle.text_lexer.proofs.WordParts.{IsAtWord, after_blanks-at_word, words_of-after_blanks}
use Rattle.text_lexer.proofs.FirstWords.{words_parted, no_words, has_bytes}
use Rattle.step_script.specs.Lines.{is_passed_over}

-- a word begins as the text does
comment_in_front : (text : List ℕ) → IsAtWord text → is_comment (before_first is_blank text) ≡ is_comment text
unfolding is_comment
comment_in_front [] at_word = refl
comment_in_front (c ∷ text) at_word = by_blank (is_blank c) refl
  where
    by_blank : (blank : Bool) → is_blank c ≡ blank → is_comment (before_first is_blank (c ∷ text)) ≡ is_comment (c ∷ text)
    by_blank true e =
        let none : 1 + position_or_len is_part text ≡ 0 = subst
        (λ (b : Bool). cond (not (not b)) (1 + position_or_len is_part text) 0 ≡ 0) e at_word in
        absurd (omega arith)
    by_blank false e =
        let next : 1 + position_or_len is_blank text ≡ suc (position_or_len is_blank text) = omega arith in
        ap (λ (b : Bool). is_comment (take (cond (not b) (1 + position_or_len is_blank text) 0) (c ∷ text))) e
        ∙ ap (λ (n : ℕ). is_comment (take n (c ∷ text))) next

-- whether a line of this text is passed over
pub passed_words : (text : List ℕ) → (nat_eq (length (text_after_words 0 text)) 0 || is_comment (text_after_words 0 text))
    ≡ is_passed_over (words_of text)
unfolding text_after_words
passed_words text = by_first (after_blanks text) (after_blanks-at_word text) ∙ ap is_passed_over (words_of-after_blanks text)
  where
    by_first : (rest : List ℕ) → IsAtWord rest → (nat_eq (length rest) 0 || is_comment rest) ≡ is_passed_over (words_of rest)
    by_first [] at_word = ap is_passed_over no_words
    by_first (c ∷ rest) at_word = ap (λ (b : Bool). b || is_comment (c ∷ rest)) (has_bytes c rest)
        ∙ sym (comment_in_front (c ∷ rest) at_word)
        ∙ ap is_passed_over (sym (words_parted (c ∷ rest) (omega arith) at_word))

-- so by what was found of it
pub passed_found : (text front : List ℕ) (none comment : Bool) → front ≡ text_after_words 0 text → none ≡ nat_eq (length front) 0
    → comment ≡ is_comment front → (none || comment) ≡ is_passed_over (words_of text)
passed_found text front none comment at_front is_none is_one =
    ap (λ (b : Bool). b || comment) (is_none ∙ ap (λ (rest : List ℕ). nat_eq (length rest) 0) at_front)
    ∙ ap (λ (b : Bool). nat_eq (length (text_after_words 0 text)) 0 || b) (is_one ∙ ap is_comment at_front)
    ∙ passed_words text
