-- The proof of `in_order_with`: it ran a beginning of the lines, and all of them at the end.
use Rattle.std.proofs.Common.{refl}
use Rattle.vma_drive.proofs.RanLines.{ran_none, ran_shown, ran_no_more, asks_shown}
use Rattle.vma_drive.proofs.Unused.{begun_alone, done_alone, late_alone, grown_alone}
use Rattle.vma_drive.proofs.driving.in_order_with.Goals as goal

pub returns-in_err-run_told-clause-begun : goal.returns-in_err-run_told-clause-begun
returns-in_err-run_told-clause-begun g c = (
  c.loop-line.line-index,
  begun_alone _ _ _ _ c.requires.unused
      (ran_no_more _ _ _ _ _ c.loop-line.invariant.ran c.run_told.ensures.later c.in_err-run_told.ensures.err),
)

pub returns-clause-begun : goal.returns-clause-begun
returns-clause-begun g c = (c.loop-line.line-index, begun_alone _ _ _ _ c.requires.unused c.loop-line.invariant.ran)

pub returns-clause-done : goal.returns-clause-done
returns-clause-done g c = done_alone _ _ _ _ c.requires.unused c.loop-line.invariant.ran c.loop-line-test.false

pub run_told-requires-clause-op : goal.run_told-requires-clause-op
run_told-requires-clause-op g c = asks_shown _ _ _ _ c.requires.lines refl c.loop-line-test.true

pub returns-in_err-run_told-clause-grown : goal.returns-in_err-run_told-clause-grown
returns-in_err-run_told-clause-grown g c = grown_alone _ _ _ _ c.requires.unused
    (ran_no_more _ _ _ _ _ c.loop-line.invariant.ran c.run_told.ensures.later c.in_err-run_told.ensures.err)

pub returns-clause-grown : goal.returns-clause-grown
returns-clause-grown g c = grown_alone _ _ _ _ c.requires.unused c.loop-line.invariant.ran

pub returns-in_err-run_told-clause-late : goal.returns-in_err-run_told-clause-late
returns-in_err-run_told-clause-late g c = late_alone _ _ _ _ c.requires.unused
    (ran_no_more _ _ _ _ _ c.loop-line.invariant.ran c.run_told.ensures.later c.in_err-run_told.ensures.err)

pub returns-clause-late : goal.returns-clause-late
returns-clause-late g c = late_alone _ _ _ _ c.requires.unused c.loop-line.invariant.ran

pub loop-line-init : goal.loop-line-init
loop-line-init g c = record { pass = c.requires.pass; ran = ran_none c.args.pass.now c.args.lines.now }

pub loop-line-preserved : goal.loop-line-preserved
loop-line-preserved g c = record {
  pass = c.run_told.ensures.pass;
  ran = ran_shown _ _ _ c.args.lines.now _ _ _ c.loop-line.invariant.ran c.run_told.ensures.later refl
      c.loop-line-test.true c.in_ok-run_told.ensures.ok;
}
