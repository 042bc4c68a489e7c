-- Which line of an input is bad first, where each line does something to what was read before it.
use Rattle.std.specs.Prelude.{ℕ, ◌≡◌, List, [], ◌∷◌, ◌++◌, Result, Ok, Err}
use Rattle.text_lexer.specs.declared.error.Cause.{Cause}
use Rattle.text_lexer.specs.declared.error.BadLine.{BadLine}
use Rattle.text_lexer.specs.Lines.{RawLine, raw_lines}

-- a bad line, by its number and what is wrong with it
abbrev pub bad_line : ℕ → Cause → BadLine
bad_line line cause = record { line = line; cause = cause }

-- what follows a line that was read, or the number of the bad line and its cause
abbrev pub at_line : {A B : Type 0} → ℕ → Result A Cause → (A → Result B BadLine) → Result B BadLine
at_line number (Ok so_far) rest = rest so_far
at_line number (Err cause) rest = Err (bad_line number cause)

-- what lines leave, each by what it does to what was read before it, or the first of them that is bad
abbrev pub lines_leave : {S : Type 0} → (S → RawLine → Result S Cause) → S → List RawLine → Result S BadLine
lines_leave step before [] = Ok before
lines_leave step before (line ∷ lines) = at_line line.number (step before line) (λ next. lines_leave step next lines)

-- a line of the bytes that is bad for this cause, after lines that are all good, where each line takes this step
pub record IsFirstBadBy {S : Type 0} (step : S → RawLine → Result S Cause) (start : S) (bytes : List ℕ) (first : BadLine) : Type 0 where
  pub above : List RawLine
  pub line : RawLine
  pub below : List RawLine
  pub read : S
  pub parts : raw_lines bytes ≡ above ++ line ∷ below
  pub good : lines_leave step start above ≡ Ok read
  pub bad : step read line ≡ Err first.cause
  pub number : line.number ≡ first.line
