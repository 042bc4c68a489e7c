-- What a check reads: a trace, a line `==`, and the text behind it that is judged.
use Rattle.std.specs.Prelude.{ℕ, ◌+◌, Bool, ◌&&◌, List, length, take, drop, codes, bytes_eq, count_by, find, nat_eq, nat_lt, Option, Some, None, option_map, Result, Ok, Err, if◌then◌else◌}
use Rattle.text_lexer.specs.declared.error.Cause.{Cause}
use Rattle.text_lexer.specs.declared.error.Cause.TheVariants.{Header, TooLong, NoEnd, Child}
use Rattle.text_lexer.specs.declared.error.BadLine.{BadLine}
use Rattle.trace_reader.specs.declared.trace.Trace.{Trace}
use Rattle.text_lexer.specs.Causes.{◌>>=◌}
use Rattle.text_lexer.specs.BadLines.{bad_line, lines_leave}
use Rattle.trace_reader.specs.Grammar.{nothing, whole_trace}
use Rattle.trace_reader.specs.Lines.{SoFar, after_trace_line}
use Rattle.text_lexer.specs.Lines.{input_limit, RawLine, is_newline, raw_lines}
use Rattle.output.specs.declared.input.TheConstants.{TEXT_LIMIT}

-- a trace, and the text that is judged
pub record CheckInput : Type 0 where
  pub trace : Trace
  pub given : List ℕ

-- the line behind a trace: `==`, and it ends
abbrev pub is_mark : RawLine → Bool
is_mark line = line.ended && bytes_eq line.text (codes "==")

-- the offset of the first such line
abbrev pub mark_offset : List ℕ → Option ℕ
mark_offset bytes = option_map (λ line. line.start) (find is_mark (raw_lines bytes))

-- what a line of a trace does where none may fork
unfoldable pub plain_line : SoFar → RawLine → Result SoFar Cause
plain_line so_far line = after_trace_line so_far line >>= λ next. if nat_eq (length next.children) 0 then Ok next else Err Child

-- the trace that bytes are where no line forks, or the first bad line and its cause
unfoldable pub plain_trace_of : List ℕ → Result Trace BadLine
plain_trace_of bytes = if nat_eq (length bytes) 0 then Err (bad_line 1 Header)
    else whole_trace (lines_leave plain_line nothing (raw_lines bytes))

-- the number of the line that holds the byte at an offset
unfoldable pub line_at : ℕ → List ℕ → ℕ
line_at offset bytes = count_by is_newline (take offset bytes) + 1

-- a good trace, and what follows it, or the first bad line of the trace
abbrev pub after_trace : Result Trace BadLine → (Trace → Result CheckInput BadLine) → Result CheckInput BadLine
after_trace (Ok trace) rest = rest trace
after_trace (Err first) rest = Err first

-- the text behind a mark at this offset, which has not too many bytes
abbrev pub with_given : ℕ → List ℕ → Trace → Result CheckInput BadLine
with_given place bytes trace = if nat_lt TEXT_LIMIT (length (drop (place + 3) bytes))
    then Err (bad_line (line_at (place + 3 + TEXT_LIMIT) bytes) TooLong)
    else Ok (record { trace = trace; given = drop (place + 3) bytes })

-- the trace before a mark, and the text behind it; without a mark, the line after the last is missing
abbrev pub parted : Option ℕ → List ℕ → Result CheckInput BadLine
parted (Some place) bytes = after_trace (plain_trace_of (take place bytes)) (with_given place bytes)
parted None bytes = after_trace (plain_trace_of bytes) (λ trace. Err (bad_line (line_at (length bytes) bytes) NoEnd))

-- the trace and the text that bytes are, or the first bad line and its cause
unfoldable pub input_of : List ℕ → Result CheckInput BadLine
input_of bytes = parted (mark_offset bytes) bytes

-- how many bytes an input may have: those of a trace, the mark and a text
unfoldable pub check_limit : ℕ
check_limit = input_limit + 3 + TEXT_LIMIT
