-- For `read_lines`: the lines of bytes, read one after another.
use Rattle.std.proofs.Common.{◌≡◌, ℕ, List, [], ◌∷◌, length, Result, Ok, Err, sym, ap, ◌∙◌, arith}
use Rattle.text_lexer.specs.declared.error.CallError.{CallError}
use Rattle.text_lexer.specs.declared.error.CallError.TheVariants as calls
use Rattle.text_lexer.specs.declared.error.Cause.{Cause}
use Rattle.text_lexer.specs.declared.error.BadLine.{BadLine}
use Rattle.text_lexer.specs.BadLines.{bad_line, at_line, lines_leave}
use Rattle.text_lexer.specs.Lines.{RawLine, lines_from}
use Rattle.text_lexer.specs.Reading.{Fails, error_at}
use Rattle.text_lexer.proofs.RawPieces.{lines_from-nil}

-- the first line is bad, and so are the lines
pub first_bad : {S : Type 0} (step : S → RawLine → Result S Cause) (before : S) (lines more : List RawLine) (line : RawLine) (cause : Cause)
    (all : Result S BadLine) (number : ℕ)
    → lines_leave step before lines ≡ all → lines ≡ line ∷ more → line.number ≡ number → step before line ≡ Err cause
    → all ≡ Err (bad_line number cause)
first_bad {S} step before lines more line cause all number so_far first numbered fails =
    sym so_far ∙ ap (lines_leave step before) first
    ∙ ap (λ (r : Result S Cause). at_line line.number r (λ next. lines_leave step next more)) fails
    ∙ ap (λ (n : ℕ). Err (bad_line n cause)) numbered

-- the first line is good, and what it leaves and the others are what all leave
pub first_good : {S : Type 0} (step : S → RawLine → Result S Cause) (before after : S) (lines more : List RawLine) (line : RawLine)
    (all : Result S BadLine)
    → lines_leave step before lines ≡ all → lines ≡ line ∷ more → step before line ≡ Ok after → lines_leave step after more ≡ all
first_good {S} step before after lines more line all so_far first good =
    sym (ap (λ (r : Result S Cause). at_line line.number r (λ next. lines_leave step next more)) good)
    ∙ sym (ap (lines_leave step before) first) ∙ so_far

-- no lines are left
pub none_left : {S : Type 0} (step : S → RawLine → Result S Cause) (before : S) (number start : ℕ) (bytes : List ℕ) (all : Result S BadLine)
    → length bytes ≡ 0 → lines_leave step before (lines_from number start bytes) ≡ all → all ≡ Ok before
none_left step before number start [] all none so_far = sym so_far ∙ ap (lines_leave step before) (lines_from-nil number start)
none_left step before number start (b ∷ bytes) all none so_far = absurd (omega arith)
