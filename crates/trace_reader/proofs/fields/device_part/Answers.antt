-- For `device_part`: its goals.
use Rattle.std.proofs.Common.{◌<◌, ◌^◌, ◌∙◌, sym, arith}
use Rattle.text_lexer.proofs.Digits.{part_fits}
use Rattle.trace_reader.proofs.fields.device_part.Goals as goal

pub overflow_cast-result : goal.overflow_cast-result
overflow_cast-result c =
    let small : c.in-Some.part < 2 ^ 32 = part_fits c.args.most c.args.word.now c.in-Some.part c.requires
    (sym c.digits_of.ensures ∙ c.in-Some.is) in
    omega arith
