-- The proof of `read_source`: what was taken settles which trace the source gives.
use Rattle.std.proofs.lemmas.Result.{err_from_is_err_and}
use Rattle.text_lexer.specs.Lines.{input_limit}
use Rattle.trace_reader.proofs.TraceValues.{trace_of-value}
use Rattle.vma_replay.proofs.Taken.{reads_trace, reads_no_trace}
use Rattle.vma_replay.proofs.reading.read_source.Goals as goal

pub returns-in_err-read-clause-reading : goal.returns-in_err-read-clause-reading
unfolding input_limit
returns-in_err-read-clause-reading g c =
    let given = err_from_is_err_and c.from_residual-in_err-read.result c.from_residual-in_err-read.ensures.1 in
    rw given.1 (reads_no_trace (g.S.Source.seen c.args.source.now) (g.S.Source.seen c.take_bytes.new.source) c.in_ok-bytes.bytes.items c.in_err-read.field-0.0 _
    c.in_ok-bytes.ensures (rw (← c.deref.ensures.value) c.in_err-read.ensures.trace) given.2)

pub returns-clause-reading : goal.returns-clause-reading
unfolding input_limit
returns-clause-reading g c = reads_trace (g.S.Source.seen c.args.source.now) (g.S.Source.seen c.take_bytes.new.source) c.in_ok-bytes.bytes.items c.in_ok-read.field-0
    c.in_ok-bytes.ensures (rw (← c.deref.ensures.value) c.in_ok-read.ensures.trace)

pub returns-clause-value : goal.returns-clause-value
returns-clause-value g c = trace_of-value _ _ c.in_ok-read.ensures.trace
