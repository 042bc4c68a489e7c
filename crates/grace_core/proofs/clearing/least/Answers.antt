-- The least over all readers: `least`.
use Rattle.std.proofs.Common.{arith, ap}
use Rattle.std.proofs.lemmas.List.{drop_all}
use Rattle.grace_core.proofs.Clearings.{least_number}
use Rattle.grace_core.proofs.WriterStates.{least_gone, least_here}
use Rattle.grace_core.specs.Steps.{cleared_up_to, new_clearing}
use Rattle.grace_core.proofs.clearing.least.Goals as goal
use Rattle.grace_core.proofs.clearing.least.Goals.{then-not-clearing, else-not-clearing}

pub loop-clearing-init : goal.loop-clearing-init
loop-clearing-init c = record { below = omega arith; rest = omega (arith, least_number c.args.number c.args.clearings.now) }

pub loop-clearing-preserved : goal.loop-clearing-preserved
loop-clearing-preserved c = elim c.if-not-clearing.branch [
  | then-not-clearing w ↦
      let here = least_here c.args.number c.args.clearings.now c.loop-clearing.clearing-index new_clearing c.loop-clearing-test.true w.if-not-clearing.true in
      record {
        below = omega (arith, w.least-is, w.min-least.ensures, c.loop-clearing.invariant.below);
        rest = omega (arith, here, w.least-is, w.min-least.ensures, c.loop-clearing.invariant.rest);
      }
  | else-not-clearing w ↦
      let gone = least_gone c.args.number c.args.clearings.now c.loop-clearing.clearing-index new_clearing c.loop-clearing-test.true w.if-not-clearing.false in
      record {
        below = omega (arith, w.least-is, c.loop-clearing.invariant.below);
        rest = omega (arith, gone, w.least-is, c.loop-clearing.invariant.rest);
      }
]

pub returns : goal.returns
returns c =
    let none = drop_all c.loop-clearing.clearing-index c.args.clearings.now c.loop-clearing-test.false in
    let rest = ap (cleared_up_to c.args.number) none in
    omega (arith, rest, c.loop-clearing.invariant.below, c.loop-clearing.invariant.rest)
