-- For `is_header`, and for others that read the first words of a text without a list of them.
use Rattle.std.proofs.Common.{◌≡◌, ℕ, ◌<◌, Bool, true, false, not, ◌&&◌, nat_eq, List, [], ◌∷◌, length, bytes_eq, refl, sym, ap, ◌∙◌, arith}
use Rattle.std.proofs.lemmas.Bool.{ne_eqb}
use Rattle.std.specs.List.{before_first}
use Rattle.text_lexer.specs.Words.{is_blank, words_of, after_blanks, after_word, text_after_words, is_header}
use Rattle.text_lexer.proofs.WordParts.{IsAtWord, after_blanks-at_word, words_of-after_blanks, words_more, words_end}

-- the first word of a text that begins with one, and those behind it
pub words_parted : (text : List ℕ) → 0 < length text → IsAtWord text
    → words_of text ≡ before_first is_blank text ∷ words_of (after_blanks (after_word text))
words_parted text some at_word =
    sym (words_more [] (words_of text) text (before_first is_blank text) (after_blanks (after_word text)) some at_word refl refl refl)

pub no_words : [] ≡ words_of []
no_words = words_end [] (words_of []) [] refl refl

-- a text with bytes is not empty
pub has_bytes : (c : ℕ) (text : List ℕ) → nat_eq (length (c ∷ text)) 0 ≡ false
has_bytes c text = ne_eqb (length (c ∷ text)) 0 (λ none. absurd (omega (arith, none)))

-- ---- the header

and_false : (b : Bool) → (b && false) ≡ false
and_false true = refl
and_false false = refl

and_true : (b : Bool) → (b && true) ≡ b
and_true true = refl
and_true false = refl

module _ (format version : List ℕ) where
  -- what is tested of the first word, of the text behind it and of what follows the second word
  abbrev tested : List ℕ → List ℕ → List ℕ → Bool
  tested first behind last = not (nat_eq (length behind) 0) && (bytes_eq first format && (bytes_eq (before_first is_blank behind) version && nat_eq (length last) 0))

  -- by the text behind the first word
  by_behind : (first behind : List ℕ) → IsAtWord behind
      → tested first behind (after_blanks (after_word behind)) ≡ is_header format version (first ∷ words_of behind)
  unfolding is_header
  by_behind first [] at_word = ap (λ (words : List (List ℕ)). is_header format version (first ∷ words)) no_words
  by_behind first (c ∷ text) at_word =
      ap (λ (b : Bool). not b && (bytes_eq first format && (bytes_eq second version && nat_eq (length rest) 0))) (has_bytes c text)
      ∙ by_last rest (after_blanks-at_word (after_word (c ∷ text)))
      ∙ ap (λ (words : List (List ℕ)). is_header format version (first ∷ words)) (sym (words_parted (c ∷ text) (omega arith) at_word))
    where
      second : List ℕ
      second = before_first is_blank (c ∷ text)

      rest : List ℕ
      rest = after_blanks (after_word (c ∷ text))

      by_last : (last : List ℕ) → IsAtWord last
          → (bytes_eq first format && (bytes_eq second version && nat_eq (length last) 0)) ≡ is_header format version (first ∷ second ∷ words_of last)
      by_last [] at = ap (λ (b : Bool). bytes_eq first format && b) (and_true (bytes_eq second version))
          ∙ ap (λ (words : List (List ℕ)). is_header format version (first ∷ second ∷ words)) no_words
      by_last (d ∷ last) at = ap (λ (b : Bool). bytes_eq first format && (bytes_eq second version && b)) (has_bytes d last)
          ∙ ap (λ (b : Bool). bytes_eq first format && b) (and_false (bytes_eq second version)) ∙ and_false (bytes_eq first format)
          ∙ ap (λ (words : List (List ℕ)). is_header format version (first ∷ second ∷ words)) (sym (words_parted (d ∷ last) (omega arith) at))

  -- no bytes have no words behind a first one
  nothing_behind : length (after_blanks (after_word [])) ≡ 0
  unfolding after_blanks after_word
  nothing_behind = refl

  -- whether the words of a text are those of the header
  header_words : (text : List ℕ)
      → tested (before_first is_blank (text_after_words 0 text)) (text_after_words 1 text) (text_after_words 2 text) ≡ is_header format version (words_of text)
  unfolding text_after_words is_header
  header_words text = by_first (after_blanks text) (after_blanks-at_word text) ∙ ap (is_header format version) (words_of-after_blanks text)
    where
      by_first : (front : List ℕ) → IsAtWord front
          → tested (before_first is_blank front) (after_blanks (after_word front)) (after_blanks (after_word (after_blanks (after_word front))))
          ≡ is_header format version (words_of front)
      by_first [] at_word = rw nothing_behind (ap (is_header format version) no_words)
      by_first (c ∷ front) at_word =
          by_behind (before_first is_blank (c ∷ front)) (after_blanks (after_word (c ∷ front))) (after_blanks-at_word (after_word (c ∷ front)))
          ∙ ap (is_header format version) (sym (words_parted (c ∷ front) (omega arith) at_word))

  -- so by what was found of them
  pub header_found : (text front behind last first second : List ℕ) (none named numbered ended : Bool) → behind ≡ text_after_words 1 text
      → none ≡ nat_eq (length behind) 0 → front ≡ text_after_words 0 text → first ≡ before_first is_blank front → named ≡ bytes_eq first format
      → second ≡ before_first is_blank behind → numbered ≡ bytes_eq second version → last ≡ text_after_words 2 text
      → ended ≡ nat_eq (length last) 0 → (not none && (named && (numbered && ended))) ≡ is_header format version (words_of text)
  header_found text front behind last first second none named numbered ended at_behind is_none at_front is_first is_named is_second is_numbered at_last is_ended =
      let zero : none ≡ nat_eq (length (text_after_words 1 text)) 0 = is_none ∙ ap (λ (rest : List ℕ). nat_eq (length rest) 0) at_behind in
      let one : named ≡ bytes_eq (before_first is_blank (text_after_words 0 text)) format =
      is_named ∙ ap (λ (word : List ℕ). bytes_eq word format) (is_first ∙ ap (before_first is_blank) at_front) in
      let two : numbered ≡ bytes_eq (before_first is_blank (text_after_words 1 text)) version =
      is_numbered ∙ ap (λ (word : List ℕ). bytes_eq word version) (is_second ∙ ap (before_first is_blank) at_behind) in
      let three : ended ≡ nat_eq (length (text_after_words 2 text)) 0 =
      is_ended ∙ ap (λ (rest : List ℕ). nat_eq (length rest) 0) at_last in
      rw (zero, one, two, three) (header_words text)
