-- For `text_within`: its goals.
use Rattle.std.proofs.Common.{◌∙◌, sym, ap, Ok}
use Rattle.std.proofs.lemmas.Bool.{false_from_ne_true}
use Rattle.std.proofs.lemmas.Str.{is_utf8-from_IsUtf8, IsUtf8-from_is_utf8}
use Rattle.text_lexer.specs.Reading.{line_view}
use Rattle.text_lexer.proofs.LineTests.{text_within-good, text_within-utf8}
use Rattle.text_lexer.proofs.lines.text_within.Goals as goal

pub returns-in-Ok : goal.returns-in-Ok
returns-in-Ok c = text_within-good c.args.line_limit c.args.file_limit (line_view c.args.line.now) (sym c.if-is_longer_than.ensures) c.if-not-line.false
    (is_utf8-from_IsUtf8 _ c.in-Ok.ensures.cases.1) ∙ ap Ok (sym c.in-Ok.ensures.cases.0)

pub returns-in-Err : goal.returns-in-Err
returns-in-Err c = text_within-utf8 c.args.line_limit c.args.file_limit (line_view c.args.line.now) (sym c.if-is_longer_than.ensures) c.if-not-line.false
    (false_from_ne_true _ (λ utf8. c.in-Err.ensures.cases.0 (IsUtf8-from_is_utf8 _ utf8)))
