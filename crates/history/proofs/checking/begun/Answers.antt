-- The proof of `begun`: before the first entry, and after each.
use Rattle.history.proofs.Walking.{begun_none, begun_more}
use Rattle.history.proofs.checking.begun.Goals as goal

pub loop-entry-init : goal.loop-entry-init
loop-entry-init c = begun_none _ _ _ c.in_ok-space.ensures

pub loop-entry-preserved : goal.loop-entry-preserved
loop-entry-preserved c =
    begun_more _ _ _ _ _ _ c.loop-entry.invariant c.loop-entry-test.true c.call.ensures.config c.call.ensures.space c.call.ensures.objects
