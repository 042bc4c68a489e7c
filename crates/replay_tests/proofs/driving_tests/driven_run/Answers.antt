-- The proof of `driven_run`: the lines are those of the parent.
use Rattle.std.proofs.Common.{◌≡◌, ◌∙◌, sym, ap, subst, List, length, arith}
use Rattle.trace_reader.specs.declared.trace.TraceLine.{TraceLine}
use Rattle.history.specs.declared.callers.TheConstants.{MOST_THREADS}
use Rattle.history.specs.Histories.{caller_of}
use Rattle.replay_tests.proofs.driving_tests.driven_run.Goals as goal

pub driven-requires-clause-callers : goal.driven-requires-clause-callers
driven-requires-clause-callers g c κs within =
    subst (λ (l : List TraceLine). caller_of l MOST_THREADS ≡ 2) c.in_ok-own.ensures.own
    (sym (c.count.ensures.count c.in_ok-own.own c.of.ensures.counted) ∙ c.if-count-ne2.false)

pub driven-requires-clause-most : goal.driven-requires-clause-most
driven-requires-clause-most g c κs within = omega (arith, ap length (c.items.ensures.lines ∙ c.in_ok-own.ensures.own))
