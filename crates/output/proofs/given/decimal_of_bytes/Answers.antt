-- The proof of `decimal_of_bytes`: a printed number is text, and is read as it was printed; what is read is a number.
use Rattle.std.proofs.Common.{◌∙◌, ap}
use Rattle.text_lexer.specs.Numbers.{decimal_of}
use Rattle.output.proofs.ReadNumbers.{decimal_utf8, decimal_of-decimal, read_is}
use Rattle.output.proofs.given.decimal_of_bytes.Goals as goal

pub returns-in-Ok-clause-printed : goal.returns-in-Ok-clause-printed
returns-in-Ok-clause-printed c = λ number fits is. c.decimal_of.ensures ∙ ap decimal_of (c.in-Ok.ensures.cases.0 ∙ is) ∙ decimal_of-decimal number fits

pub returns-in-Ok-clause-told : goal.returns-in-Ok-clause-told
returns-in-Ok-clause-told c =
    read_is c.decimal_of.result (decimal_of c.args.word.now) (c.decimal_of.ensures ∙ ap decimal_of c.in-Ok.ensures.cases.0)

pub returns-in-Err-clause-printed : goal.returns-in-Err-clause-printed
returns-in-Err-clause-printed c = λ number fits is. absurd (c.in-Err.ensures.cases.0 (decimal_utf8 number c.args.word.now fits is))
