-- For `first_line`: its goals.
use Rattle.std.proofs.Common.{◌+◌, length, ◌∙◌, sym, arith}
use Rattle.std.proofs.lemmas.List.{take_rest, drop_all}
use Rattle.text_lexer.proofs.RawPieces.{place_searched, ended_line, last_line}
use Rattle.text_lexer.proofs.lines.first_line.Goals as goal

pub returns-in-Some-clause-line : goal.returns-in-Some-clause-line
returns-in-Some-clause-line c =
    let bytes = c.args.bytes.now in
    ended_line c.args.number c.args.start bytes _ c.in-Some.len
    (sym (place_searched bytes c.memchr.result c.memchr.ensures) ∙ c.in-Some.is)
    (take_rest bytes (c.in-Some.len + 1))

pub returns-in-None-clause-line : goal.returns-in-None-clause-line
returns-in-None-clause-line c =
    let bytes = c.args.bytes.now in
    last_line c.args.number c.args.start bytes _ c.requires
    (sym (place_searched bytes c.memchr.result c.memchr.ensures) ∙ c.in-None.is)
    (take_rest bytes (length bytes) ∙ drop_all (length bytes) bytes (omega arith))
