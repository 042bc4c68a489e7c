-- For `run_before`: one change more is of the run.
use Rattle.std.proofs.Common.{◌-◌, sym, arith}
use Rattle.mm_state.proofs.Running.{run_begins, run_joins, run_more, longest_from, longest_apart}
use Rattle.mm_state.proofs.runs.run_before.Goals as goal
use Rattle.mm_state.proofs.runs.run_before.Goals.{then-first-end, else-first-end+else-area-lo}

pub loop-first-preserved : goal.loop-first-preserved
loop-first-preserved c = record {
  upto = omega arith;
  run = run_more c.args.changes.now (c.loop-first.first - 1) c.loop-first.first c.args.end c.if-first-end.hi _ c.in-Detach.area (omega arith) (omega arith) (omega arith)
      c.in-Detach.is
      (elim c.if-first-end.branch [
        | then-first-end w ↦ run_begins c.args.changes.now c.loop-first.first c.args.end c.in-Detach.area.span.hi c.if-first-end.hi (omega arith) (sym w.hi-is)
        | else-first-end+else-area-lo w ↦ run_joins c.args.changes.now c.loop-first.first c.args.end c.loop-first.lo c.in-Detach.area.span.hi c.loop-first.hi c.if-first-end.hi
            (omega arith) (sym w.hi-is) c.loop-first.invariant.run
      ]);
}

pub returns-in_default : goal.returns-in_default
returns-in_default c = record {
  first = c.loop-first.invariant.upto;
  run = c.loop-first.invariant.run;
  longest = longest_from c.args.changes.now c.loop-first.first c.args.end c.loop-first.lo c.loop-first.hi _ (omega arith) c.loop-first.invariant.upto c.requires c.loop-first.invariant.run
      (λ area is. absurd (c.in_default.not-Detach area is));
}

pub returns-then-area-lo-clause-longest : goal.returns-then-area-lo-clause-longest
returns-then-area-lo-clause-longest c =
    longest_apart c.args.changes.now c.loop-first.first c.args.end c.loop-first.lo c.loop-first.hi _ c.in-Detach.area (omega arith) (omega arith) c.requires c.loop-first.invariant.run
    c.in-Detach.is c.if-area-lo.true
