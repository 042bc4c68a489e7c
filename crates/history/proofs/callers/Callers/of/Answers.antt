-- For `Callers::of`: its goals.
use Rattle.std.proofs.Common.{ℕ, ◌≤◌, ◌∙◌, ap, get_or, refl, subst, arith}
use Rattle.std.proofs.lemmas.List.{take_all}
use Rattle.history.specs.SpaceLines.{AreSpaceLines}
use Rattle.history.specs.Threads.{counts_below}
use Rattle.history.proofs.ThreadCounts.{counts_none, counted_few, counts_next}
use Rattle.history.proofs.callers.Callers.of.Goals as goal

pub loop-line-init : goal.loop-line-init
loop-line-init c = counts_none 64

pub overflow_add-counts : goal.overflow_add-counts
overflow_add-counts c =
    let few : (thread : ℕ) → get_or c.loop-line.counts thread 0 ≤ c.loop-line.line-index =
    λ thread. counted_few 64 c.loop-line.counts c.items-lines.result.now c.loop-line.line-index thread c.loop-line.invariant in
    omega (arith, c.loop-line-test.true, few)

pub loop-line-preserved : goal.loop-line-preserved
loop-line-preserved c =
    counts_next 64 c.loop-line.counts c.items-lines.result.now c.loop-line.line-index _ _ _ c.loop-line.invariant c.loop-line-test.true refl
    (c.items-lines.ensures.threads c.loop-line.line-index _ c.loop-line-test.true)

pub returns-clause-counted : goal.returns-clause-counted
returns-clause-counted c =
    c.loop-line.invariant
    ∙ ap (counts_below 64) (take_all c.loop-line.line-index c.items-lines.result.now c.loop-line-test.false ∙ c.items-lines.ensures.lines)

pub returns-clause-kept : goal.returns-clause-kept
returns-clause-kept c = subst AreSpaceLines c.items-lines.ensures.lines c.items-lines.ensures.kept
