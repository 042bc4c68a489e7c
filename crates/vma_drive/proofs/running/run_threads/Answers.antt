-- The proof of `run_threads`: the callers are few, and so are their operations, and no calls of theirs pass the limit of areas.
use Rattle.std.proofs.Common.{◌≤◌, ◌∙◌, ap, length, filter, arith, sym, subst, List, []}
use Rattle.std.specs.Prelude.{IfOk, is_some}
use Rattle.mm_types.specs.declared.config.Config.{Config}
use Rattle.mm_types.specs.Config.{IsValidConfig}
use Rattle.trace_reader.specs.declared.trace.TraceLine.{TraceLine}
use Rattle.trace_reader.specs.declared.limits.TheConstants.{MOST_NAMED}
use Rattle.trace_reader.specs.Values.{IsTraceValue}
use Rattle.area_rules.proofs.SameJournals.{valid_for}
use Rattle.history.specs.CallerPlaces.{callers_of}
use Rattle.history.specs.Parents.{parent_lines}
use Rattle.history.specs.Runs.{IsRun}
use Rattle.history.proofs.OneSpace.{parent_is_trace}
use Rattle.vma_drive.proofs.Limits.{run_result}
use Rattle.vma_drive.proofs.NamesShared.{few_shown}
use Rattle.vma_drive.proofs.running.run_threads.Goals as goal

pub make-requires-clause-config : goal.make-requires-clause-config
make-requires-clause-config g c = subst (λ (s : Config). IsValidConfig s) (sym c.in_ok-config.ensures) (valid_for _ _ c.requires.trace.config)

pub make-requires-clause-callers : goal.make-requires-clause-callers
make-requires-clause-callers g c =
    let few = few_shown c.in_ok-own.own _ c.deref.result.now c.in_ok-operations.ensures c.deref.ensures.value in
    (few.some, few.callers)

pub make-requires-clause-few : goal.make-requires-clause-few
make-requires-clause-few g c =
    let few = few_shown c.in_ok-own.own _ c.deref.result.now c.in_ok-operations.ensures c.deref.ensures.value in
    let value : IsTraceValue (record c.args.trace.now { lines = parent_lines c.args.trace.now.lines }) =
    parent_is_trace c.args.trace.now c.requires.trace in
    let named : length (filter (λ line. is_some line.after) c.in_ok-own.own) ≤ MOST_NAMED =
    subst (λ (l : List TraceLine). length (filter (λ line. is_some line.after) l) ≤ MOST_NAMED) (sym c.in_ok-own.ensures.own) value.few_named in
    omega (arith, few.few, ap (λ (l : List TraceLine). length l) c.items-lines.ensures.lines, c.items-lines.ensures.kept.few, named)

pub returns : goal.returns
returns g c =
    let both = run_result (length c.items-lines.result.now) c.args.trace.now.config c.requires.trace.config
    (omega (arith, c.items-lines.ensures.kept.few)) c.in_ok-ready.ready.config c.in_ok-own.own (callers_of c.in_ok-own.own)
    c.run_passes.result (c.in_ok-ready.ensures.config ∙ c.in_ok-config.ensures)
    (omega (arith, ap (λ (l : List TraceLine). length l) c.items-lines.ensures.lines)) c.run_passes.ensures.run c.run_passes.ensures.list in
    record {
      run = subst (λ (l : List TraceLine). IfOk c.run_passes.result (λ run. IsRun c.args.trace.now.config [] l (callers_of l) run.journal run.logs))
          c.in_ok-own.ensures.own both.0;
      list = both.1;
    }
