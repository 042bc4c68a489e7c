-- Which line of a trace is the first bad one.
use Rattle.std.specs.Prelude.{ℕ, List}
use Rattle.text_lexer.specs.declared.error.BadLine.{BadLine}
use Rattle.text_lexer.specs.BadLines.{IsFirstBadBy}
use Rattle.trace_reader.specs.Grammar.{nothing}
use Rattle.trace_reader.specs.Lines.{after_trace_line}

-- the first bad line of a trace
abbrev pub IsFirstBadTraceLine : List ℕ → BadLine → Type 0
IsFirstBadTraceLine bytes first = IsFirstBadBy after_trace_line nothing bytes first
