-- The lines of an input as they stand in its bytes: a trace, a script or a maps text.
use Rattle.std.specs.Prelude.{ℕ, ◌+◌, Bool, true, false, not, ◌||◌, List, [], ◌∷◌, length, nat_eq, nat_lt, Result, Ok, if◌then◌else◌}
use Rattle.std.specs.List.{slice_split}
use Rattle.std.specs.Str.{byte, is_utf8}
use Rattle.mm_types.specs.Rows.{first_row}
use Rattle.text_lexer.specs.declared.error.Cause.{Cause}
use Rattle.text_lexer.specs.declared.error.Cause.TheVariants.{TooLong, Utf8, NoEnd}
use Rattle.text_lexer.specs.declared.limits.TheConstants.{LINE_LIMIT, INPUT_LIMIT}
use Rattle.text_lexer.specs.Causes.{unless}

-- A line: its number, counted from 1, its bytes without the newline, the offset of its first byte, and whether a newline
-- ends it.
pub record RawLine : Type 0 where
  pub number : ℕ
  pub text : List ℕ
  pub start : ℕ
  pub ended : Bool

-- a line of these parts
abbrev pub raw_line : ℕ → ℕ → List ℕ → Bool → RawLine
raw_line number start text ended = record { number = number; text = text; start = start; ended = ended }

-- a newline
abbrev pub is_newline : ℕ → Bool
is_newline c = nat_eq c (byte "\n")

-- The lines that pieces between newlines are, the first of this number and at this offset: a newline ends each piece but
-- the last, which is a line only where it has bytes.
abbrev pub lines_of_pieces : ℕ → ℕ → List (List ℕ) → List RawLine
lines_of_pieces number start [] = []
lines_of_pieces number start (text ∷ []) = if nat_eq (length text) 0 then [] else raw_line number start text false ∷ []
lines_of_pieces number start (text ∷ next ∷ pieces) = raw_line number start text true
    ∷ lines_of_pieces (number + 1) (start + length text + 1) (next ∷ pieces)

-- the lines of bytes, the first of this number and at this offset
unfoldable pub lines_from : ℕ → ℕ → List ℕ → List RawLine
lines_from number start bytes = lines_of_pieces number start (slice_split is_newline bytes)

-- the lines of an input
abbrev pub raw_lines : List ℕ → List RawLine
raw_lines bytes = lines_from 1 0 bytes

-- more bytes than a line may have, or a newline past the limit of the input
unfoldable pub is_longer_than : ℕ → ℕ → RawLine → Bool
is_longer_than line_limit file_limit line = nat_lt line_limit (length line.text) || nat_lt file_limit (line.start + length line.text + 1)

-- the text of a line whose bytes pass the first three tests: it is not too long, ends, and is UTF-8
unfoldable pub text_within : ℕ → ℕ → RawLine → Result (List ℕ) Cause
text_within line_limit file_limit line = unless
    (first_row ((is_longer_than line_limit file_limit line, TooLong) ∷ (not line.ended, NoEnd) ∷ (not (is_utf8 line.text), Utf8) ∷ []))
    (Ok line.text)

-- how many bytes an input may have
unfoldable pub input_limit : ℕ
input_limit = INPUT_LIMIT

-- more than 4,096 bytes, or a newline past the limit of the input
abbrev pub is_too_long : RawLine → Bool
is_too_long line = is_longer_than LINE_LIMIT input_limit line

-- the text of a line of a trace or of a script
abbrev pub text_of : RawLine → Result (List ℕ) Cause
text_of line = text_within LINE_LIMIT input_limit line
