-- For `gap_then`: whatever gap the others have.
use Rattle.std.proofs.Common.{◌∙◌, arith}
use Rattle.maple_node.proofs.splice.gap_then.Goals as goal

pub returns-then-gap-after : goal.returns-then-gap-after
returns-then-gap-after c others was is = omega (arith, was, c.if-gap-after.true)

pub returns-then-before-gap : goal.returns-then-before-gap
returns-then-before-gap c others was is = omega (arith, was, c.if-gap-after.false, c.if-before-gap.true)

pub returns-else-before-gap : goal.returns-else-before-gap
returns-else-before-gap c others was is = c.gap_in.ensures ∙ is
