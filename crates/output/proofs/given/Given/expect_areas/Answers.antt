-- The proof of `Given::expect_areas`: the line of each area is one line, and it agrees or does not.
use Rattle.std.proofs.Common.{◌++◌, take, arith}
use Rattle.mm_types.specs.MapsText.{list_text}
use Rattle.output.specs.Internal.Judging.{IsBadAt}
use Rattle.output.proofs.Stopped.{area_line_is, areas_step, areas_stop, areas_all, err_is}
use Rattle.output.proofs.given.Given.expect_areas.Goals as goal

pub expect-requires-clause-line : goal.expect-requires-clause-line
expect-requires-clause-line c =
    area_line_is c.args.files.now _ _ _ _ c.as_slice.ensures.value c.in_ok-push_line.ensures.ok c.clear.ensures.items

pub returns-in_err-expect-clause-bad : goal.returns-in_err-expect-clause-bad
returns-in_err-expect-clause-bad c = λ text before read.
    err_is _ c.in_err-expect.field-0.0 (IsBadAt text (before ++ list_text c.args.files.now c.args.areas.now)) c.from_residual-in_err-expect.ensures.1
    (areas_stop text before c.args.files.now c.args.areas.now c.loop-area.area-index _ _ _ _ c.in_err-expect.field-0.0 c.loop-area-test.true
    c.as_slice.ensures.value c.in_ok-push_line.ensures.ok c.clear.ensures.items
    (c.in_err-expect.ensures.bad text (before ++ list_text c.args.files.now (take c.loop-area.area-index c.args.areas.now))
    (c.loop-area.invariant.read text before read)))

pub loop-area-preserved : goal.loop-area-preserved
loop-area-preserved c = record {
  read = λ text before read.
      areas_step text before c.args.files.now c.args.areas.now c.loop-area.area-index _ _ _ _ c.expect.new.self c.loop-area-test.true
      c.as_slice.ensures.value c.in_ok-push_line.ensures.ok c.clear.ensures.items
      (c.in_ok-expect.ensures.ok text (before ++ list_text c.args.files.now (take c.loop-area.area-index c.args.areas.now))
      (c.loop-area.invariant.read text before read));
  shrinks = omega (arith, c.in_ok-expect.ensures.shrinks, c.loop-area.invariant.shrinks);
  shorter = omega (arith, c.in_ok-expect.ensures.shorter, c.loop-area.invariant.shorter);
  later = omega (arith, c.in_ok-expect.ensures.later, c.loop-area.invariant.later);
}

pub returns-clause-ok : goal.returns-clause-ok
returns-clause-ok c = λ text before read.
    areas_all text before c.args.files.now c.args.areas.now c.loop-area.area-index c.loop-area.self (omega arith) (c.loop-area.invariant.read text before read)
