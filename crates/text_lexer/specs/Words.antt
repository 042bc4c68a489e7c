-- The words of a line.
use Rattle.std.specs.Prelude.{ℕ, zero, suc, Bool, false, not, ◌&&◌, ◌||◌, List, [], ◌∷◌, length, drop, filter, nat_eq, bytes_eq}
use Rattle.std.specs.Char.{is_ascii_digit}
use Rattle.std.specs.List.{slice_split, position_or_len}
use Rattle.std.specs.Str.{byte}

-- spaces and tabs stand between words
abbrev pub is_blank : ℕ → Bool
is_blank c = nat_eq c (byte " ") || nat_eq c (byte "\t")

-- what is no blank
abbrev pub is_part : ℕ → Bool
is_part c = not (is_blank c)

-- whether a piece has bytes
abbrev pub has_bytes : List ℕ → Bool
has_bytes piece = not (nat_eq (length piece) 0)

-- the words of a text: the pieces between blanks that have bytes
unfoldable pub words_of : List ℕ → List (List ℕ)
words_of text = filter has_bytes (slice_split is_blank text)

-- a text from its first byte on that is no blank
unfoldable pub after_blanks : List ℕ → List ℕ
after_blanks text = drop (position_or_len is_part text) text

-- a text from its first blank on
unfoldable pub after_word : List ℕ → List ℕ
after_word text = drop (position_or_len is_blank text) text

-- what follows this many words and the blanks after them
unfoldable pub text_after_words : ℕ → List ℕ → List ℕ
text_after_words zero text = after_blanks text
text_after_words (suc count) text = text_after_words count (after_word (after_blanks text))

-- whether words are the header of a format: its name and a version
unfoldable pub is_header : List ℕ → List ℕ → List (List ℕ) → Bool
is_header format version (first ∷ second ∷ []) = bytes_eq first format && bytes_eq second version
is_header format version _ = false

-- whether a word begins with `#`
unfoldable pub is_comment : List ℕ → Bool
is_comment [] = false
is_comment (c ∷ word) = nat_eq c (byte "#")

-- whether a word begins with a decimal digit
unfoldable pub begins_with_digit : List ℕ → Bool
begins_with_digit [] = false
begins_with_digit (c ∷ word) = is_ascii_digit c
