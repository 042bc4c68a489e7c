-- For `Callers::caller`: the caller of the thread was found before.
use Rattle.std.proofs.Common.{◌≤◌, ◌∙◌, ap, subst, sym, arith}
use Rattle.history.specs.Threads.{busy_below}
use Rattle.history.proofs.ThreadCounts.{threads_below, busy_few}
use Rattle.history.proofs.callers.Callers.caller.Goals as goal

pub returns-clause-caller : goal.returns-clause-caller
returns-clause-caller c = λ lines same. c.self.invariant c.args.thread (omega (arith, c.self.told.1, c.requires)) ∙ ap (busy_below c.args.thread) c.self.view_is
    ∙ threads_below 64 _ lines c.args.thread (omega (arith, c.requires)) same

pub returns-clause-few : goal.returns-clause-few
returns-clause-few c = subst (λ n. n ≤ c.args.thread) (sym (c.self.invariant c.args.thread (omega (arith, c.self.told.1, c.requires)))) (busy_few c.args.thread c.self.inside.counts)
