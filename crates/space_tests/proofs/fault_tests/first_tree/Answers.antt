-- For `first_tree`: the pass is one of the new tables.
use Rattle.space_tests.proofs.Passes.{last_sits}
use Rattle.space_tests.proofs.fault_tests.first_tree.Goals as goal

pub returns : goal.returns
returns g c = last_sits _ _ _ _ _ c.in-Some.ensures.items c.in_ok-view.ensures.passes.passes_are
