-- The output of a script, or its first bad line.
use Rattle.std.specs.Prelude.{ℕ, List, Result, Ok, Err}
use Rattle.text_lexer.specs.declared.error.BadLine.{BadLine}
use Rattle.step_script.specs.declared.script.Script.{Script}
use Rattle.step_script.specs.declared.script.Script.TheVariants.{Lock, Grace}
use Rattle.step_script.specs.Grammar.{script_of}
use Rattle.step_script.specs.LockTexts.{lock_text}
use Rattle.step_script.specs.GraceTexts.{grace_text}

-- the text of a script: a line for each of its events
unfoldable pub script_text : Script → List ℕ
script_text (Lock script) = lock_text script
script_text (Grace script) = grace_text script

-- the text of the script that was read
abbrev pub output_of : Result Script BadLine → Result (List ℕ) BadLine
output_of (Ok script) = Ok (script_text script)
output_of (Err first) = Err first

-- the output of the script that the bytes are, or the first bad line and its cause
unfoldable pub script_output : List ℕ → Result (List ℕ) BadLine
script_output bytes = output_of (script_of bytes)
