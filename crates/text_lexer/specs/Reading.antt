-- What a reader answers: what its definition gives, or its cause; and where memory runs out.
use Rattle.std.specs.Prelude.{◌≡◌, ℕ, Result, Ok, Err, IsOk}
use Rattle.text_lexer.specs.declared.error.Cause.{Cause}
use Rattle.text_lexer.specs.declared.error.BadLine.{BadLine}
use Rattle.text_lexer.specs.declared.error.CallError.{CallError}
use Rattle.text_lexer.specs.declared.error.CallError.TheVariants as calls
use Rattle.text_lexer.specs.declared.error.ReadError.{ReadError}
use Rattle.text_lexer.specs.declared.error.ReadError.TheVariants as reads
use Rattle.text_lexer.specs.declared.lines.RawLine as code
use Rattle.text_lexer.specs.BadLines.{bad_line}
use Rattle.text_lexer.specs.Lines.{RawLine}

-- what was answered without memory, seen by view, is what the definition gives, and so is its cause
abbrev pub ReadsAs : {X Y : Type 0} → (X → Y) → Result X Cause → Result Y Cause → Type 0
ReadsAs view (Ok x) read = read ≡ Ok (view x)
ReadsAs view (Err cause) read = read ≡ Err cause

-- a cause is that of the definition; out of memory is free
abbrev pub Fails : {Y : Type 0} → CallError → Result Y Cause → Type 0
Fails (calls.Bad cause) read = read ≡ Err cause
Fails calls.NoMemory read = Unit {0}

-- what was answered, seen by view, is what the definition gives
abbrev pub Gives : {X Y : Type 0} → (X → Y) → Result X CallError → Result Y Cause → Type 0
Gives view (Ok x) read = read ≡ Ok (view x)
Gives view (Err error) read = Fails error read

-- a cause is that of the definition; out of memory comes only where there is none
abbrev pub FailsLast : {Y : Type 0} → CallError → Result Y Cause → Type 0
FailsLast (calls.Bad cause) read = read ≡ Err cause
FailsLast calls.NoMemory read = IsOk read

-- what was answered, seen by view, is what the definition gives; all tests come before memory is taken
abbrev pub GivesTested : {X Y : Type 0} → (X → Y) → Result X CallError → Result Y Cause → Type 0
GivesTested view (Ok x) read = read ≡ Ok (view x)
GivesTested view (Err error) read = FailsLast error read

-- a bad line is that of the definition; out of memory is free
abbrev pub IsErrorOf : {Y : Type 0} → ReadError → Result Y BadLine → Type 0
IsErrorOf (reads.Bad first) read = read ≡ Err first
IsErrorOf reads.NoMemory read = Unit {0}

-- an error in the line of this number
abbrev pub error_at : ℕ → CallError → ReadError
error_at number (calls.Bad cause) = reads.Bad (bad_line number cause)
error_at number calls.NoMemory = reads.NoMemory

-- a line without where its bytes lie in memory
abbrev pub line_view : code.RawLine → RawLine
line_view line = record { number = line.number; text = line.text.now; start = line.start; ended = line.ended }
