-- For `read_maps`: what its loop keeps.
use Rattle.std.proofs.Common.{◌≡◌, ◌+◌, ◌-◌, ◌<◌, ◌≤◌, length}
use Rattle.text_lexer.specs.BadLines.{lines_leave}
use Rattle.text_lexer.specs.Lines.{lines_from}
use Rattle.maps_read.specs.Maps.{after_maps_line, maps_of}
use Rattle.maps_read.proofs.reading.read_maps.Given as goal

-- The lines so far, and then those of the rest, leave what all lines leave. They count from 1, and there are no more of them than bytes were read.
abbrev pub invariant-loop-rest : goal.invariant-loop-rest
invariant-loop-rest l = record {
  read : lines_leave after_maps_line l.lines.items (lines_from l.number (length l.bytes - length l.rest) l.rest) ≡ maps_of l.bytes;
  within : length l.rest ≤ length l.bytes;
  begun : 0 < l.number;
  counted : l.number ≤ 1 + (length l.bytes - length l.rest);
}

abbrev pub decreases-loop-rest : goal.decreases-loop-rest
decreases-loop-rest l = length l.rest
