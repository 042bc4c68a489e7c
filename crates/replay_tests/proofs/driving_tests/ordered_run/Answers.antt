-- The proof of `ordered_run`: the lines are those of the parent.
use Rattle.std.proofs.Common.{◌≡◌, ◌∙◌, ap, List, [], ◌∷◌, length}
use Rattle.history.specs.Parents.{parent_lines}
use Rattle.trace_reader.specs.declared.trace.TraceLine.{TraceLine}
use Rattle.replay_tests.proofs.driving_tests.ordered_run.Goals as goal

pub ordered-requires-clause-enough : goal.ordered-requires-clause-enough
ordered-requires-clause-enough g c =
    let own : c.items.result.now ≡ parent_lines c.args.trace.now.lines = c.items.ensures.lines ∙ c.in_ok-own.ensures.own in
    c.in_ok-ready.ensures.operations ∙ ap (λ (l : List TraceLine). length l ∷ []) own
