-- The proof of `run_history`: the logs of a run are few.
use Rattle.std.proofs.Common.{List, []}
use Rattle.trace_reader.specs.declared.trace.TraceLine.{TraceLine}
use Rattle.history.specs.Parents.{parent_lines}
use Rattle.history.specs.Runs.{IsRun}
use Rattle.history.specs.CallerPlaces.{callers_of}
use Rattle.vma_replay.proofs.RunTexts.{few_logs}
use Rattle.vma_replay.proofs.printing.run_history.Goals as goal

pub gather-requires : goal.gather-requires
gather-requires c =
    let lines : List TraceLine = parent_lines c.args.trace.now.lines in
    let run : IsRun c.args.trace.now.config [] lines (callers_of lines) c.args.run.now.journal c.args.run.now.logs = rw c.in-Threads.is at c.requires.run in
    few_logs lines c.logs-in-Threads.result.now _ c.logs-in-Threads.ensures run.all
