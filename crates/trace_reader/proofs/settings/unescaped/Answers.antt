-- For `unescaped`: its goals.
use Rattle.std.proofs.Common.{◌∙◌, rules}
use Rattle.trace_reader.proofs.Paths.{unescaped-more, unescaped-end}
use Rattle.trace_reader.proofs.settings.unescaped.Goals as goal

pub loop-before-preserved : goal.loop-before-preserved
loop-before-preserved c = (
  search rules,
  rw (c.in_ok-push_str-2.ensures.bytes, c.in_ok-push_str.ensures.bytes)
      (unescaped-more _ _ c.loop-before.rest.now c.in-Some.before.now c.in-Some.after.now c.in-Some.ensures.cases
      c.loop-before.invariant.1),
)

pub returns : goal.returns
returns c = c.of.ensures ∙ c.in_ok-push_str-3.ensures.bytes
    ∙ unescaped-end _ _ c.loop-before.rest.now c.in_default.ensures.cases c.loop-before.invariant.1
