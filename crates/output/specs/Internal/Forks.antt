-- Which lines fork, by their words, and what that does to a trace.
use Rattle.std.specs.Prelude.{ℕ, Bool, false, not, ◌&&◌, List, [], ◌∷◌, codes, bytes_eq, nat_eq, nat_lt, Option, Some, None, Result, Ok, Err, if◌then◌else◌}
use Rattle.text_lexer.specs.declared.error.Cause.{Cause}
use Rattle.text_lexer.specs.declared.error.Cause.TheVariants.{Child}
use Rattle.text_lexer.specs.declared.error.BadLine.{BadLine}
use Rattle.text_lexer.specs.BadLines.{bad_line}
use Rattle.text_lexer.specs.Lines.{text_of, RawLine}
use Rattle.text_lexer.specs.Words.{begins_with_digit, words_of}

-- the first word begins with a digit, and the second is `fork`
unfoldable pub are_fork_words : List (List ℕ) → Bool
are_fork_words (first ∷ name ∷ words) = begins_with_digit first && bytes_eq name (codes "fork")
are_fork_words _ = false

-- so of the text of a line, where it passes the tests of its bytes
abbrev pub is_fork_text : ℕ → Result (List ℕ) Cause → Bool
is_fork_text number (Ok text) = not (nat_eq number 1) && are_fork_words (words_of text)
is_fork_text number (Err cause) = false

-- a line below the header that forks, as its words say
unfoldable pub is_fork : RawLine → Bool
is_fork line = is_fork_text line.number (text_of line)

-- the number of the first of lines that forks
abbrev pub first_fork : List RawLine → Option ℕ
first_fork [] = None
first_fork (line ∷ lines) = if is_fork line then Some line.number else first_fork lines

-- what was read, where the first line that forks has this number: unless a bad line comes before it, it is the first bad one
abbrev pub without_forks : {A : Type 0} → Option ℕ → Result A BadLine → Result A BadLine
without_forks None read = read
without_forks (Some number) (Ok so_far) = Err (bad_line number Child)
without_forks (Some number) (Err first) = if nat_lt number first.line then Err (bad_line number Child) else Err first
