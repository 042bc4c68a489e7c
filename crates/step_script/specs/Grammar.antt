-- Which script bytes are, or else which line is bad first and for which cause.
use Rattle.std.specs.Prelude.{ℕ, List, Option, Some, None, Result, Ok, Err}
use Rattle.text_lexer.specs.declared.error.Cause.TheVariants.{Header}
use Rattle.text_lexer.specs.declared.error.BadLine.{BadLine}
use Rattle.text_lexer.specs.BadLines.{bad_line, lines_leave}
use Rattle.text_lexer.specs.Lines.{RawLine, raw_lines}
use Rattle.step_script.specs.declared.script.Script.{Script}
use Rattle.step_script.specs.Lines.{after_script_line}

-- what lines leave, or the first of them that is bad
abbrev pub after_script_lines : Option Script → List RawLine → Result (Option Script) BadLine
after_script_lines script lines = lines_leave after_script_line script lines

-- a script that names a core; where no line does, line 1 is bad
abbrev pub whole_script : Result (Option Script) BadLine → Result Script BadLine
whole_script (Ok (Some script)) = Ok script
whole_script (Ok None) = Err (bad_line 1 Header)
whole_script (Err first) = Err first

-- the script that the bytes are, or the first bad line and its cause
unfoldable pub script_of : List ℕ → Result Script BadLine
script_of bytes = whole_script (after_script_lines None (raw_lines bytes))
