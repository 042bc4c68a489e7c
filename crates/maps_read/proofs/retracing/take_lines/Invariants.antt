-- For `take_lines`: what its loop keeps.
use Rattle.std.proofs.Common.{◌≡◌, ◌+◌, ◌-◌, ◌≤◌, length, drop}
use Rattle.text_lexer.specs.Lines.{lines_from}
use Rattle.maps_read.specs.Retracing.{with_lines, lines_taken}
use Rattle.maps_read.specs.Internal.Taking.{AreLinesTaken, what_taken}
use Rattle.maps_read.proofs.RawMaps.{AreReadAs}
use Rattle.maps_read.proofs.retracing.take_lines.Given as goal

-- What was taken of the lines so far, and then the others, leave what all lines leave; each line that is left was read from one of the
-- rest of the bytes. There are no more lines than bytes were read.
abbrev pub invariant-loop-line : goal.invariant-loop-line
invariant-loop-line l = record {
  taken : with_lines (what_taken l.taken) (lines_from l.number (length l.bytes - length l.rest) l.rest) (drop l.line-index l.lines)
      ≡ lines_taken l.bytes l.lines;
  right : AreLinesTaken (what_taken l.taken);
  read : AreReadAs (lines_from l.number (length l.bytes - length l.rest) l.rest) (drop l.line-index l.lines);
  within : length l.rest ≤ length l.bytes;
  counted : l.number ≤ 1 + (length l.bytes - length l.rest);
}
