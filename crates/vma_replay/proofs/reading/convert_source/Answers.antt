-- The proof of `convert_source`: what was taken settles which text the source is turned into.
use Rattle.std.proofs.lemmas.Result.{err_from_is_err_and}
use Rattle.text_lexer.specs.Lines.{input_limit}
use Rattle.vma_replay.proofs.Taken.{converts, converts_nothing}
use Rattle.vma_replay.proofs.reading.convert_source.Goals as goal

pub returns-in_err-convert : goal.returns-in_err-convert
unfolding input_limit
returns-in_err-convert g c =
    let given = err_from_is_err_and c.from_residual-in_err-convert.result c.from_residual-in_err-convert.ensures.1 in
    rw given.1 (converts_nothing c.args.conversion (g.S.Source.seen c.args.source.now) (g.S.Source.seen c.take_bytes.new.source) c.in_ok-bytes.bytes.items
    c.in_err-convert.field-0.0 _ c.in_ok-bytes.ensures (rw (← c.deref.ensures.value) c.in_err-convert.ensures.bad) given.2)

pub returns : goal.returns
unfolding input_limit
returns g c = converts c.args.conversion (g.S.Source.seen c.args.source.now) (g.S.Source.seen c.take_bytes.new.source) c.in_ok-bytes.bytes.items
    c.in_ok-convert.field-0.items c.in_ok-bytes.ensures (rw (← c.deref.ensures.value) c.in_ok-convert.ensures.text)
