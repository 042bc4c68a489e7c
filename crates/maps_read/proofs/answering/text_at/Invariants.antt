-- For `text_at`: what its loop keeps.
use Rattle.std.proofs.Common.{◌≡◌, ◌+◌, ◌-◌, ◌≤◌, length, drop}
use Rattle.text_lexer.specs.Lines.{lines_from, raw_lines}
use Rattle.maps_read.proofs.answering.text_at.Given as goal

-- the lines of the rest are those from this place on
abbrev pub invariant-loop-passed : goal.invariant-loop-passed
invariant-loop-passed l = record {
  read : lines_from (l.passed + 1) (length l.bytes - length l.rest) l.rest ≡ drop l.passed (raw_lines l.bytes);
  within : length l.rest ≤ length l.bytes;
}
