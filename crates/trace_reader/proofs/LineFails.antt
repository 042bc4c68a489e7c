-- For `read_lines`: where the first of some lines is bad, so are the lines.
use Rattle.std.proofs.Common.{◌≡◌, ◌≢◌, ℕ, List, ◌∷◌, Result, Err, refl}
use Rattle.text_lexer.specs.declared.error.Cause.{Cause}
use Rattle.text_lexer.specs.declared.error.CallError.{CallError}
use Rattle.text_lexer.specs.declared.error.CallError.TheVariants as calls
use Rattle.text_lexer.specs.declared.error.BadLine.{BadLine}
use Rattle.text_lexer.specs.Lines.{RawLine}
use Rattle.text_lexer.specs.Reading.{Fails, FailsLast, error_at}
use Rattle.text_lexer.proofs.RawReading.{first_bad}
use Rattle.trace_reader.specs.Grammar.{after_trace_lines}
use Rattle.trace_reader.specs.Lines.{SoFar, after_trace_line}
use Rattle.trace_reader.specs.Reading.{GivesLines}

pub first_fails : (before : SoFar) (lines more : List RawLine) (line : RawLine) (error : CallError)
    (all : Result SoFar BadLine) (number : ℕ)
    → after_trace_lines before lines ≡ all → lines ≡ line ∷ more → line.number ≡ number
    → Fails error (after_trace_line before line) → GivesLines (Err (error_at number error)) all
first_fails before lines more line (calls.Bad cause) all number so_far first numbered fails =
    first_bad after_trace_line before lines more line cause all number so_far first numbered fails
first_fails before lines more line calls.NoMemory all number so_far first numbered fails = tt

-- an error of a line that takes no memory comes behind all its tests
pub header_tested : {A : Type 0} (error : CallError) (read : Result SoFar Cause) → Fails error read → ◌≢◌ {A = Result A CallError} (Err error) (Err calls.NoMemory)
    → FailsLast error read
header_tested (calls.Bad cause) read fails header = fails
header_tested calls.NoMemory read fails header = absurd (header refl)
