-- What is read of the bytes of a check: what the definition gives, unless memory runs out.
use Rattle.std.specs.Prelude.{◌≡◌, Result, Ok, Err}
use Rattle.text_lexer.specs.declared.error.ReadError.{ReadError}
use Rattle.text_lexer.specs.declared.error.BadLine.{BadLine}
use Rattle.text_lexer.specs.Reading.{IsErrorOf}
use Rattle.output.specs.declared.input.Input.{Input}
use Rattle.output.specs.Input.{CheckInput}

-- an input as the definition has it
abbrev pub input_view : Input → CheckInput
input_view input = record { trace = input.trace; given = input.given.now }

-- what was read is what the definition gives
abbrev pub GivesInput : Result Input ReadError → Result CheckInput BadLine → Type 0
GivesInput (Ok input) read = read ≡ Ok (input_view input)
GivesInput (Err error) read = IsErrorOf error read
