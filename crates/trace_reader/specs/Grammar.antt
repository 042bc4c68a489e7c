-- Which trace bytes are, or else which line is bad first and for which cause.
use Rattle.std.specs.Prelude.{ℕ, List, [], ◌∷◌, length, nat_eq, None, Result, Ok, Err, unwrap_or, if◌then◌else◌}
use Rattle.mm_types.specs.declared.config.Config.{Config}
use Rattle.mm_types.specs.declared.config.TheConstants.{ADDRESS_LIMIT, WIDE_LIMIT}
use Rattle.mm_types.specs.Config.{default_config}
use Rattle.trace_reader.specs.declared.builder.Version.{Version}
use Rattle.trace_reader.specs.declared.builder.Version.TheVariants.{Narrow, Wide}
use Rattle.text_lexer.specs.declared.error.Cause.{Cause}
use Rattle.text_lexer.specs.declared.error.Cause.TheVariants.{Header}
use Rattle.text_lexer.specs.declared.error.BadLine.{BadLine}
use Rattle.trace_reader.specs.declared.trace.Trace.{Trace}
use Rattle.text_lexer.specs.BadLines.{bad_line, lines_leave}
use Rattle.text_lexer.specs.Lines.{RawLine, raw_lines}
use Rattle.trace_reader.specs.Lines.{SoFar, after_trace_line}

-- before the first line
abbrev pub nothing : SoFar
nothing = record {
  version = Narrow;
  areas = None;
  top = None;
  min = None;
  heap = None;
  files = [];
  lines = [];
  children = [];
  maps = 0;
  named = 0;
}

-- what the lines of a trace leave
abbrev pub after_trace_lines : SoFar → List RawLine → Result SoFar BadLine
after_trace_lines so_far lines = lines_leave after_trace_line so_far lines

-- what all the lines of bytes leave, or the first that is bad
unfoldable pub lines_read : List ℕ → Result SoFar BadLine
lines_read bytes = after_trace_lines nothing (raw_lines bytes)

-- the address at which user memory ends
abbrev pub address_limit : Version → ℕ
address_limit Narrow = ADDRESS_LIMIT
address_limit Wide = WIDE_LIMIT

-- the configuration: what was named, and else the default
unfoldable pub config_of : SoFar → Config
config_of so_far = let default = default_config so_far.files in
    record default {
      min = unwrap_or so_far.min default.min;
      top = unwrap_or so_far.top default.top;
      limit = address_limit so_far.version;
      areas = unwrap_or so_far.areas default.areas;
      heap = unwrap_or so_far.heap default.heap;
    }

-- the trace of what was read
abbrev pub trace_so_far : SoFar → Trace
trace_so_far so_far = record { config = config_of so_far; lines = so_far.lines }

-- the trace of lines that were all read
abbrev pub whole_trace : Result SoFar BadLine → Result Trace BadLine
whole_trace (Ok so_far) = Ok (trace_so_far so_far)
whole_trace (Err first) = Err first

-- The trace that the bytes are, or the first bad line and its cause. Where there are no bytes, there is no header.
unfoldable pub trace_of : List ℕ → Result Trace BadLine
trace_of bytes = if nat_eq (length bytes) 0 then Err (bad_line 1 Header) else whole_trace (lines_read bytes)
