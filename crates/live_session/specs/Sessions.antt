-- Sessions: what each line is answered by, and how the session goes on.
use Rattle.std.specs.Prelude.{ℕ, ◌+◌, ◌-◌, ◌/◌, ◌≤◌, true, false, List, [], ◌∷◌, ◌++◌, length, take, get_or, find, codes, decimal, nat_eq, nat_lt, Option, Some, None, unwrap_or, Result, Ok, Err, if◌then◌else◌}
use Rattle.std.specs.List.{slice_split}
use Rattle.std.specs.Option.{option_map_or}
use Rattle.mm_types.specs.declared.config.Config.{Config}
use Rattle.mm_types.specs.declared.config.TheConstants.{MOST_FILES, PAGE_SIZE}
use Rattle.maps_print.specs.Trimmed.{trimmed_line}
use Rattle.area_rules.specs.Steps.{opening}
use Rattle.area_rules.specs.Tables.{AddressSpace}
use Rattle.text_lexer.specs.declared.error.Cause.{Cause}
use Rattle.text_lexer.specs.Causes.{cause_number, cause_name}
use Rattle.text_lexer.specs.Lines.{raw_line, is_newline, text_of}
use Rattle.trace_reader.specs.declared.limits.TheConstants.{MOST_LINES, MOST_MAPS, MOST_NAMED}
use Rattle.trace_reader.specs.declared.trace.Op.{Op}
use Rattle.trace_reader.specs.declared.trace.TraceLine.{TraceLine}
use Rattle.trace_reader.specs.Grammar.{nothing, config_of}
use Rattle.trace_reader.specs.Lines.{SoFar}
use Rattle.history.specs.Histories.{answer_of, space_after, version_after}
use Rattle.output.specs.Output.{item_text, maps_text, item_start}
use Rattle.live_session.specs.declared.asking.Asked.{Asked}
use Rattle.live_session.specs.declared.asking.Asked.TheVariants as asks
use Rattle.live_session.specs.Asking.{asked_of}

-- an open address space: its configuration, the space, and how many calls were made
pub record Opened : Type 0 where
  pub config : Config
  pub space : AddressSpace
  pub version : ℕ

-- A session since the last `new`: the number of its last line, 0 before the header; what its lines say as those of a trace; and the address
-- space, where an operation opened one.
pub record Session : Type 0 where
  pub count : ℕ
  pub so_far : SoFar
  pub opened : Option Opened

-- before the first line, and after each `new`
abbrev pub session_begun : Session
session_begun = record { count = 0; so_far = nothing; opened = None }

-- the address space that an operation opens: that of the configuration which the settings name, without an area
abbrev pub opened_by : SoFar → Opened
opened_by so_far = record { config = config_of so_far; space = opening (config_of so_far); version = 0 }

-- the address space of a session, opened or not
abbrev pub session_space : Session → Opened
session_space session = unwrap_or session.opened (opened_by session.so_far)

-- an address space after an operation
abbrev pub after_operation : Opened → Op → Opened
after_operation now op = record {
  config = now.config;
  space = space_after now.config now.space op;
  version = version_after now.config now.space now.version op;
}

-- the answer to an operation: its item, as a history that is printed has it
abbrev pub operation_text : Opened → TraceLine → List ℕ
operation_text now line = item_text now.config.files line
    (record { caller = 0; version = version_after now.config now.space now.version line.op; content = answer_of now.config now.space line.op })

-- the list of an address space
abbrev pub areas_text : Opened → List ℕ
areas_text now = maps_text now.config.files now.space.areas

-- the line of the first area that ends above an address, without the spaces at its end, or `none`
abbrev pub found_text : Opened → ℕ → List ℕ
found_text now address = option_map_or (trimmed_line now.config.files)
    (find (λ area. nat_lt (address / PAGE_SIZE) area.span.hi) now.space.areas) (codes "none\n")

-- the answer to a bad line
unfoldable pub bad_text : ℕ → Cause → List ℕ
bad_text number cause = codes "trace line " ++ (decimal number ++ (codes " cause "
    ++ (decimal (cause_number cause) ++ (codes " " ++ (cause_name cause ++ codes "\n")))))

-- the last list of an address space, where a header came
unfoldable pub closing_text : Session → List ℕ
closing_text session = if nat_lt 0 session.count then areas_text (session_space session) else []

-- what a line is answered by, and the session then
pub record LineAnswer : Type 0 where
  pub session : Session
  pub text : List ℕ

-- an operation is made in the space of the session, and opens it where it is not open
abbrev pub operated : Session → TraceLine → LineAnswer
operated session line = record {
  session = record session { opened = Some (after_operation (session_space session) line.op) };
  text = operation_text (session_space session) line;
}

-- a session with one line more
abbrev pub with_line_counted : Session → Session
with_line_counted session = record session { count = session.count + 1 }

-- The answer to what a line asks for that was read: of a session whose lines say what they say with it, and that does not count it yet.
-- `new` is none of the lines of the address space that it ends.
abbrev pub answer_read : Session → Asked → LineAnswer
answer_read session asks.Nothing = record { session = with_line_counted session; text = [] }
answer_read session (asks.Areas line) = record { session = with_line_counted session; text = item_start line (session_space session).version ++ areas_text (session_space session) }
answer_read session (asks.Operation line) = operated (with_line_counted session) line
answer_read session (asks.Query address) = record { session = with_line_counted session; text = found_text (session_space session) address }
answer_read session asks.New = record { session = session_begun; text = closing_text session }

-- the number of the last line once the next was bad: until the header came each line is line 1
abbrev pub bad_counted : ℕ → ℕ
bad_counted count = if nat_lt 0 count then count + 1 else 0

-- a bad line changes nothing else
abbrev pub refused : Session → Cause → LineAnswer
refused session cause = record {
  session = record session { count = bad_counted session.count };
  text = bad_text (session.count + 1) cause;
}

-- the answer to a line that was read or is bad
abbrev pub session_answer : Session → Result (Asked × SoFar) Cause → LineAnswer
session_answer session (Ok read) = answer_read (record session { so_far = read.1 }) read.0
session_answer session (Err cause) = refused session cause

-- what a whole line asks for, without its newline, and what the lines say with it
abbrev pub line_asks : Session → List ℕ → Result (Asked × SoFar) Cause
line_asks session text = asked_of session.so_far (raw_line (session.count + 1) 0 text true)

-- the answer to a whole line, without its newline
unfoldable pub line_answer : Session → List ℕ → LineAnswer
line_answer session text = session_answer session (line_asks session text)

-- a session after whole lines
abbrev pub session_after : Session → List (List ℕ) → Session
session_after session [] = session
session_after session (line ∷ lines) = session_after (line_answer session line).session lines

-- the answers to whole lines, one after another
abbrev pub answers : Session → List (List ℕ) → List ℕ
answers session [] = []
answers session (line ∷ lines) = (line_answer session line).text ++ answers (line_answer session line).session lines

-- What a space has of its lines, however many there are: operations, those of them that are `maps` or name a line, and files. One more is refused
-- by TooMany, but for a read of the list, which is answered and not kept.
pub record IsWithinLimits (session : Session) : Type 0 where
  pub operations : length session.so_far.lines ≤ MOST_LINES
  pub maps : session.so_far.maps ≤ MOST_MAPS
  pub files : length session.so_far.files ≤ MOST_FILES
  pub named : session.so_far.named ≤ MOST_NAMED

-- what is between the newlines of an input
abbrev pub pieces_of : List ℕ → List (List ℕ)
pieces_of input = slice_split is_newline input

-- the whole lines of an input: each piece but the last
unfoldable pub whole_lines : List ℕ → List (List ℕ)
whole_lines input = take (length (pieces_of input) - 1) (pieces_of input)

-- what is behind the last newline of an input
unfoldable pub last_piece : List ℕ → List ℕ
last_piece input = get_or (pieces_of input) (length (pieces_of input) - 1) []

-- the answer to a line that no newline ends: it is bad
abbrev pub unended_text : ℕ → Result (List ℕ) Cause → List ℕ
unended_text number (Ok text) = []
unended_text number (Err cause) = bad_text number cause

-- the end of a session with this piece behind the last newline: the answer to the piece, if it has a byte, and the last list
unfoldable pub ending_text : Session → List ℕ → List ℕ
ending_text session piece = (if nat_eq (length piece) 0 then [] else unended_text (session.count + 1) (text_of (raw_line (session.count + 1) 0 piece false)))
    ++ closing_text session

-- the answers to the whole lines of an input
unfoldable pub answers_of : List ℕ → List ℕ
answers_of input = answers session_begun (whole_lines input)

-- all that is given for an input that ends: the answers to its whole lines, and then its end
unfoldable pub session_text : List ℕ → List ℕ
session_text input = answers_of input ++ ending_text (session_after session_begun (whole_lines input)) (last_piece input)
