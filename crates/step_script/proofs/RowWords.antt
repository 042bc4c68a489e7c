-- For `rows_of`: the rows that words are, read one after another.
use Rattle.std.proofs.Common.{List, ◌++◌, Result, Ok}
use Rattle.mm_types.specs.declared.slot.Row.{Row}
use Rattle.text_lexer.specs.declared.error.Cause.{Cause}
use Rattle.text_lexer.specs.Causes.{◌>>=◌}

-- rows that were read, and then those that are still to be read
abbrev pub onto : List Row → Result (List Row) Cause → Result (List Row) Cause
onto listed read = read >>= λ more. Ok (listed ++ more)
