-- The proof of `check_source`: what was taken settles what is judged.
use Rattle.std.proofs.lemmas.Result.{err_from_is_err_and}
use Rattle.text_lexer.specs.Lines.{input_limit}
use Rattle.output.specs.Input.{check_limit}
use Rattle.vma_replay.proofs.CheckTaken.{checks, checks_nothing}
use Rattle.vma_replay.proofs.reading.check_source.Goals as goal

pub returns-in_err-checked : goal.returns-in_err-checked
unfolding check_limit input_limit
returns-in_err-checked g c =
    let given = err_from_is_err_and c.from_residual-in_err-checked.result c.from_residual-in_err-checked.ensures.1 in
    rw given.1 (checks_nothing (g.S.Source.seen c.args.source.now) (g.S.Source.seen c.take_bytes.new.source) c.in_ok-bytes.bytes.items
    c.in_err-checked.field-0.0 _ c.in_ok-bytes.ensures (rw (← c.deref.ensures.value) c.in_err-checked.ensures.bad) given.2)

pub returns : goal.returns
unfolding check_limit input_limit
returns g c = checks (g.S.Source.seen c.args.source.now) (g.S.Source.seen c.take_bytes.new.source) c.in_ok-bytes.bytes.items
    c.in_ok-checked.field-0.items c.in_ok-bytes.ensures (rw (← c.deref.ensures.value) c.in_ok-checked.ensures.text)
