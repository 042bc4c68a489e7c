-- Whose lines of a trace that forks are whose: those of the parent.
use Rattle.std.specs.Prelude.{List, filter, not}
use Rattle.trace_reader.specs.declared.trace.Trace.{Trace}
use Rattle.trace_reader.specs.declared.trace.TraceLine.{TraceLine}
use Rattle.trace_reader.specs.Lines.{has_child}
use Rattle.trace_reader.specs.Values.{children_of}

-- the lines of the parent, in order: those of threads that are no child's
abbrev pub parent_lines : List TraceLine → List TraceLine
parent_lines lines = filter (λ line. not (has_child (children_of lines) line.thread)) lines

-- the trace of the parent: its lines, in the same configuration
abbrev pub parent_trace : Trace → Trace
parent_trace trace = record trace { lines = parent_lines trace.lines }
