-- For `lines_are_the_bytes`: its goal.
use Rattle.text_lexer.proofs.RawLaws.{raw_lines-AreLinesOf}
use Rattle.text_lexer.proofs.laws.lines_are_the_bytes.Goals as goal

pub returns : goal.returns
returns c = raw_lines-AreLinesOf
