-- The fields of a line, each a word.
use Rattle.std.specs.Prelude.{ℕ, List, [], ◌∷◌, nat_lt, Result, Ok, Err, ok_or, if◌then◌else◌}
use Rattle.text_lexer.specs.declared.error.Cause.{Cause}
use Rattle.text_lexer.specs.declared.error.Cause.TheVariants.{Arity, Number}
use Rattle.text_lexer.specs.Causes.{◌>>=◌}
use Rattle.text_lexer.specs.Numbers.{number, number_in}
use Rattle.trace_reader.specs.Fields.{read_thread}
use Rattle.step_script.specs.declared.script.TheConstants.{MOST_PARTS}

-- how many readers, slots or rows there are: 1 to 8
unfoldable pub read_count : List ℕ → Result ℕ Cause
read_count word = number_in 1 MOST_PARTS word

-- the number of one of so many readers, slots, rows or fields, which are numbered from 0
unfoldable pub read_index : ℕ → List ℕ → Result ℕ Cause
read_index count word = do
  n ← number word
  if nat_lt n count then Ok n else Err Number

-- the caller of a call: 1 to 20 decimal digits with a value of 0 to 63
unfoldable pub read_caller : List ℕ → Result ℕ Cause
read_caller word = ok_or (read_thread word) Number

-- one of so many readers, where it is the only word after the name of an event
unfoldable pub read_reader : ℕ → List (List ℕ) → Result ℕ Cause
read_reader readers (reader ∷ []) = read_index readers reader
read_reader readers _ = Err Arity
