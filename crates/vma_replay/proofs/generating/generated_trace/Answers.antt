-- The proof of `generated_trace`: the reader gives the generated trace.
use Rattle.std.proofs.Common.{ap, sym, Ok, ◌≡◌, ◌∙◌}
use Rattle.trace_reader.specs.Grammar.{trace_of}
use Rattle.trace_reader.proofs.TraceValues.{trace_of-value}
use Rattle.gen_load.specs.Loads.{load_trace}
use Rattle.gen_load.proofs.Readings.{trace_of-load}
use Rattle.vma_replay.proofs.generating.generated_trace.Goals as goal

pub returns-in-Ok-clause-trace : goal.returns-in-Ok-clause-trace
returns-in-Ok-clause-trace c =
    let read : trace_of c.in_ok-text.text.items ≡ Ok c.in-Ok.trace = rw (← c.deref.ensures.value) c.in-Ok.ensures.trace in
    let same : Ok c.in-Ok.trace ≡ Ok (load_trace c.args.count c.args.seed) =
    sym read ∙ ap trace_of c.in_ok-text.ensures ∙ trace_of-load c.args.count c.args.seed c.requires in
    cc

pub returns-in-Ok-clause-value : goal.returns-in-Ok-clause-value
returns-in-Ok-clause-value c = trace_of-value _ _ c.in-Ok.ensures.trace
