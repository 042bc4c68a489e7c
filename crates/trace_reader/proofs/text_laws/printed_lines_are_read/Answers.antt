-- For `printed_lines_are_read`: its goal.
use Rattle.trace_reader.proofs.PrintedLines.{line_read-printed}
use Rattle.trace_reader.proofs.text_laws.printed_lines_are_read.Goals as goal

pub returns : goal.returns
returns c = line_read-printed
