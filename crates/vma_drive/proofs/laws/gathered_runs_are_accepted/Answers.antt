-- The proof of `gathered_runs_are_accepted`: the lines of the parent are numbered, and name earlier calls among them.
use Rattle.std.proofs.Common.{List, [], arith}
use Rattle.mm_types.specs.declared.call.Entry.{Entry}
use Rattle.mm_types.specs.declared.call.Seen.{Seen}
use Rattle.trace_reader.specs.declared.trace.Trace.{Trace}
use Rattle.trace_reader.specs.Values.{IsTraceValue}
use Rattle.history.specs.CallerPlaces.{callers_of}
use Rattle.history.specs.Histories.{IsLegalHistory}
use Rattle.history.specs.Parents.{parent_lines}
use Rattle.history.specs.Runs.{IsRun, history_of}
use Rattle.history.specs.SpaceLines.{AreSpaceLines}
use Rattle.history.proofs.Finished.{history_is_legal}
use Rattle.history.proofs.OneSpace.{parent_is_space}
use Rattle.history.proofs.Walking.{refused_legal}
use Rattle.vma_drive.proofs.NamesShared.{few_callers}
use Rattle.vma_drive.proofs.laws.gathered_runs_are_accepted.Goals as goal

legal : (trace : Trace) (journal : List Entry) (logs : List (List Seen)) → IsTraceValue trace
    → IsRun trace.config [] (parent_lines trace.lines) (callers_of (parent_lines trace.lines)) journal logs
    → IsLegalHistory trace.config [] (parent_lines trace.lines) (history_of journal logs)
legal trace journal logs value is =
    let own : AreSpaceLines (parent_lines trace.lines) = parent_is_space trace value in
    history_is_legal trace.config [] (parent_lines trace.lines) (callers_of (parent_lines trace.lines)) journal logs is
    (omega (arith, few_callers (parent_lines trace.lines))) own.numbered own.named

pub returns-clause-legal : goal.returns-clause-legal
returns-clause-legal c = λ trace run value is. legal trace run.journal run.logs value is

pub returns-clause-accepted : goal.returns-clause-accepted
returns-clause-accepted c = λ trace run bad value is refused.
    refused_legal trace.config [] (parent_lines trace.lines) (history_of run.journal run.logs) bad refused (legal trace run.journal run.logs value is)
