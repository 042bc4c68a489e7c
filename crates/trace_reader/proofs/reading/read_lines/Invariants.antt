-- For `read_lines`: what each loop keeps.
use Rattle.std.proofs.Common.{◌≡◌, ◌+◌, ◌-◌, ◌<◌, ◌≤◌, length}
use Rattle.trace_reader.specs.Grammar.{after_trace_lines, lines_read}
use Rattle.text_lexer.specs.Lines.{lines_from}
use Rattle.trace_reader.specs.Reading.{so_far}
use Rattle.trace_reader.proofs.TraceValues.{IsSoFar}
use Rattle.trace_reader.proofs.reading.read_lines.Given as goal

-- what the lines so far leave, and then the lines of the rest, is what all leave; what was read has numbers that rise
abbrev pub invariant-loop-rest : goal.invariant-loop-rest
invariant-loop-rest l = record {
  read : after_trace_lines (so_far l.builder) (lines_from l.number
      (length l.bytes - length l.rest) l.rest) ≡ lines_read l.bytes;
  known : IsSoFar l.number (so_far l.builder);
  within : length l.rest ≤ length l.bytes;
  begun : 0 < l.number;
  counted : l.number ≤ 1 + (length l.bytes - length l.rest);
}

abbrev pub decreases-loop-rest : goal.decreases-loop-rest
decreases-loop-rest l = length l.rest
