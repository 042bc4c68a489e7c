-- What is answered to bytes and to lines: what its definition gives, unless memory runs out.
use Rattle.std.specs.Prelude.{◌≡◌, Bool, true, Result, Ok, Err}
use Rattle.text_lexer.specs.declared.error.CallError.{CallError}
use Rattle.text_lexer.specs.declared.error.CallError.TheVariants as calls
use Rattle.text_lexer.specs.declared.error.ReadError.{ReadError}
use Rattle.text_lexer.specs.declared.error.BadLine.{BadLine}
use Rattle.text_lexer.specs.Reading.{IsErrorOf}

-- what was answered is what the definition gives
abbrev pub GivesRead : {Y : Type 0} → Result Y ReadError → Result Y BadLine → Type 0
GivesRead (Ok y) read = read ≡ Ok y
GivesRead (Err error) read = IsErrorOf error read

-- memory runs out only where it may be taken
abbrev pub LacksOnlyIf : {X : Type 0} → Bool → Result X CallError → Type 0
LacksOnlyIf may_take (Ok x) = Unit {0}
LacksOnlyIf may_take (Err (calls.Bad cause)) = Unit {0}
LacksOnlyIf may_take (Err calls.NoMemory) = may_take ≡ true
