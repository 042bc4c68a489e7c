-- What a script's first bad line is.
use Rattle.std.specs.Prelude.{ℕ, ◌≡◌, List, None, Ok}
use Rattle.text_lexer.specs.declared.error.Cause.TheVariants.{Header}
use Rattle.text_lexer.specs.declared.error.BadLine.{BadLine}
use Rattle.text_lexer.specs.BadLines.{bad_line, IsFirstBadBy}
use Rattle.text_lexer.specs.Lines.{raw_lines}
use Rattle.step_script.specs.Grammar.{after_script_lines}
use Rattle.step_script.specs.Lines.{after_script_line}

-- a line of the bytes that is bad for this cause, after lines that are all good
abbrev pub IsFirstBadScriptLine : List ℕ → BadLine → Type 0
IsFirstBadScriptLine bytes first = IsFirstBadBy after_script_line None bytes first

-- no line is bad, and none names a core: this is told as an error of line 1
abbrev pub NamesNoCore : List ℕ → BadLine → Type 0
NamesNoCore bytes first = (after_script_lines None (raw_lines bytes) ≡ Ok None) × (first ≡ bad_line 1 Header)
