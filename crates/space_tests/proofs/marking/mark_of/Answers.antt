-- For `mark_of`: a fault leaves the pass one of the space.
use Rattle.mm_space.proofs.Settling.{still}
use Rattle.space_tests.proofs.marking.mark_of.Goals as goal

pub loop-preserved : goal.loop-preserved
loop-preserved g c = still g.N.SpaceName.name _ _ c.loop.invariant c.fault_fast-fast.ensures.later
