-- What one line says and so does to the script so far, or the first test that it fails.
use Rattle.std.specs.Prelude.{ℕ, Bool, false, true, not, ◌&&◌, List, [], ◌∷◌, codes, bytes_eq, nat_eq, nat_lt, Option, Some, None, Result, Ok, Err, if◌then◌else◌}
use Rattle.text_lexer.specs.declared.error.Cause.{Cause}
use Rattle.text_lexer.specs.declared.error.Cause.TheVariants.{Header, Word, Arity, TooMany}
use Rattle.text_lexer.specs.Causes.{◌>>=◌}
use Rattle.text_lexer.specs.Lines.{text_of, RawLine}
use Rattle.text_lexer.specs.Words.{is_comment, is_header, words_of}
use Rattle.step_script.specs.declared.lines.Said.{Said}
use Rattle.step_script.specs.declared.lines.Said.TheVariants as said
use Rattle.step_script.specs.declared.script.Counts.{Counts}
use Rattle.step_script.specs.declared.script.Script.{Script}
use Rattle.step_script.specs.declared.script.Script.TheVariants.{Lock, Grace}
use Rattle.step_script.specs.declared.script.TheConstants.{MOST_LINES}
use Rattle.step_script.specs.Fields.{read_count}
use Rattle.step_script.specs.GraceLines.{grace_event, is_publish}
use Rattle.step_script.specs.LockLines.{lock_event, is_end}
use Rattle.step_script.specs.Scripts.{without_events, with_event}

-- how many readers there are, and slots or rows, by these words
unfoldable pub read_counts : List ℕ → List ℕ → Result Counts Cause
read_counts readers parts = do
  r ← read_count readers
  n ← read_count parts
  Ok (record { readers = r; parts = n })

-- the same, by the words after the name of a core
unfoldable pub counts_of : List (List ℕ) → Result Counts Cause
counts_of (readers ∷ parts ∷ []) = read_counts readers parts
counts_of _ = Err Arity

-- `lock READERS SLOTS`, from the words after `lock`
unfoldable pub read_lock : List (List ℕ) → Result Script Cause
read_lock words = do
  counts ← counts_of words
  Ok (Lock (without_events counts))

-- `grace READERS ROWS`, from the words after `grace`
unfoldable pub grace_of : List (List ℕ) → Result Script Cause
grace_of words = do
  counts ← counts_of words
  Ok (Grace (without_events counts))

-- the line that names the core, from its name and the words after it
unfoldable pub read_core : List ℕ → List (List ℕ) → Result Script Cause
read_core name words = if bytes_eq name (codes "lock") then read_lock words
    else (if bytes_eq name (codes "grace") then grace_of words else Err Word)

-- whether the first word of a line names an event that may take memory: an end of the lock core for its call, and a publish of the
-- grace core for its rows
abbrev pub may_take_memory : Option Script → List ℕ → Bool
may_take_memory None name = false
may_take_memory (Some (Lock script)) name = is_end name
may_take_memory (Some (Grace script)) name = is_publish name

-- whether a line of these words is passed over: it has none, or is a comment
abbrev pub is_passed_over : List (List ℕ) → Bool
is_passed_over [] = true
is_passed_over (name ∷ words) = is_comment name

-- whether a line of this number and these words says something: it is not the header, and not passed over
abbrev pub speaks : ℕ → List (List ℕ) → Bool
speaks number words = not (nat_eq number 1) && not (is_passed_over words)

-- the same of a line whose text passes the tests of its bytes
abbrev pub text_speaks : ℕ → Result (List ℕ) Cause → Bool
text_speaks number (Ok text) = speaks number (words_of text)
text_speaks number (Err cause) = false

-- the same of a line
abbrev pub line_speaks : RawLine → Bool
line_speaks line = text_speaks line.number (text_of line)

-- what a line says by its first word: before the line that names the core it is that line, and else an event
unfoldable pub said_to : Option Script → List ℕ → List ℕ → List (List ℕ) → Result Said Cause
said_to None text name words = do
  script ← read_core name words
  Ok (said.Core script)
said_to (Some (Lock script)) text name words = do
  event ← lock_event script.readers script.parts text name words
  Ok (said.Lock script event)
said_to (Some (Grace script)) text name words = do
  event ← grace_event script.readers script.parts name words
  Ok (said.Grace script event)

-- by its first word: a comment says nothing
unfoldable pub said_after : Option Script → List ℕ → List ℕ → List (List ℕ) → Result Said Cause
said_after script text name words = if is_comment name then Ok (said.Nothing script) else said_to script text name words

-- by its words: a line without words says nothing
unfoldable pub said_by : Option Script → List ℕ → List (List ℕ) → Result Said Cause
said_by script text [] = Ok (said.Nothing script)
said_by script text (name ∷ words) = said_after script text name words

-- by its number: line 1 is the header, `vmasteps 1`, which says nothing
unfoldable pub said_in : Option Script → ℕ → List ℕ → List (List ℕ) → Result Said Cause
said_in script number text words = if nat_eq number 1 then (if is_header (codes "vmasteps") (codes "1") words then Ok (said.Nothing script) else Err Header)
    else said_by script text words

-- whether a line says an event of a core
abbrev pub has_event : Said → Bool
has_event (said.Nothing script) = false
has_event (said.Core script) = false
has_event (said.Lock script event) = true
has_event (said.Grace script event) = true

-- the script with what the line of this number says
abbrev pub script_with : ℕ → Said → Option Script
script_with number (said.Nothing script) = script
script_with number (said.Core script) = Some script
script_with number (said.Lock script event) = Some (Lock (with_event script number event))
script_with number (said.Grace script event) = Some (Grace (with_event script number event))

-- the same, by the last test of a line: there are no more than 10,000
unfoldable pub with_said : ℕ → Said → Result (Option Script) Cause
with_said number what = if nat_lt MOST_LINES number then Err TooMany else Ok (script_with number what)

-- the script after a line
unfoldable pub after_script_line : Option Script → RawLine → Result (Option Script) Cause
after_script_line script line = do
  text ← text_of line
  what ← said_in script line.number text (words_of text)
  with_said line.number what
