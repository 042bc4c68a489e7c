-- For the laws of scripts: their first bad line, and the bytes that settle them.
use Rattle.std.proofs.Common.{◌≡◌, ◌⊎◌, ℕ, ◌+◌, ◌≤◌, List, length, take, Option, Some, None, Result, Ok, Err, refl, ap, ◌∙◌, inl, inr}
use Rattle.text_lexer.specs.declared.error.Cause.{Cause}
use Rattle.text_lexer.specs.declared.error.BadLine.{BadLine}
use Rattle.text_lexer.specs.declared.limits.TheConstants.{LINE_LIMIT}
use Rattle.text_lexer.specs.Causes.{◌>>=◌}
use Rattle.text_lexer.specs.Lines.{input_limit, raw_lines}
use Rattle.text_lexer.specs.Words.{words_of}
use Rattle.text_lexer.proofs.Beginnings.{IsLimited, lines_leave-front, lines_leave-within}
use Rattle.text_lexer.proofs.FirstBad.{lines_leave-Err}
use Rattle.text_lexer.proofs.LineTests.{text_within-past}
use Rattle.step_script.specs.declared.script.Script.{Script}
use Rattle.step_script.specs.Grammar.{after_script_lines, whole_script, script_of}
use Rattle.step_script.specs.Laws.{IsFirstBadScriptLine, NamesNoCore}
use Rattle.step_script.specs.Lines.{said_in, with_said, after_script_line}
use Rattle.step_script.specs.Output.{output_of, script_output}

by_lines : (bytes : List ℕ) (first : BadLine) (read : Result (Option Script) BadLine) → after_script_lines None (raw_lines bytes) ≡ read
    → whole_script read ≡ Err first → IsFirstBadScriptLine bytes first ⊎ NamesNoCore bytes first
by_lines bytes first (Ok (Some script)) is e = absurd cc
by_lines bytes first (Ok None) is e = inr (is, cc)
by_lines bytes first (Err bad) is e = inl (lines_leave-Err after_script_line None bytes first (is ∙ cc))

-- the error of a script is that of its first bad line, or there is no core
pub script_of-Err : (bytes : List ℕ) (first : BadLine) → script_of bytes ≡ Err first → IsFirstBadScriptLine bytes first ⊎ NamesNoCore bytes first
unfolding script_of
script_of-Err bytes first e = by_lines bytes first (after_script_lines None (raw_lines bytes)) refl e

-- the lines of a script are limited
after_line-limited : IsLimited input_limit after_script_line
unfolding after_script_line
after_line-limited before line past =
    ap (λ (r : Result (List ℕ) Cause). r >>= λ text. (said_in before line.number text (words_of text)
    >>= λ what. with_said line.number what)) (text_within-past LINE_LIMIT input_limit line past)

-- so one byte more than the limit settles the output
pub output-front : (bytes : List ℕ) → script_output (take (input_limit + 1) bytes) ≡ script_output bytes
unfolding script_output script_of
output-front bytes = ap (λ (read : Result (Option Script) BadLine). output_of (whole_script read))
    (lines_leave-front input_limit after_script_line after_line-limited None bytes)

was_read : (read : Result (Option Script) BadLine) (text : List ℕ) → output_of (whole_script read) ≡ Ok text
    → (script : Option Script) × (read ≡ Ok script)
was_read (Ok script) text is = (script, refl)
was_read (Err first) text is = absurd cc

-- and bytes with an output are within it
pub output-within : (bytes text : List ℕ) → script_output bytes ≡ Ok text → length bytes ≤ input_limit
unfolding script_output script_of
output-within bytes text is =
    let read = was_read (after_script_lines None (raw_lines bytes)) text is in
    lines_leave-within input_limit after_script_line after_line-limited None read.0 bytes read.1
