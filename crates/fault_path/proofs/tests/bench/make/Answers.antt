-- For the test's `make`: the pass is one of the new tables.
use Rattle.fault_path.proofs.Benches.{last_sits}
use Rattle.fault_path.proofs.tests.bench.make.Goals as goal

pub returns-clause-pass : goal.returns-clause-pass
returns-clause-pass g c = last_sits _ _ _ _ _ c.in-Some.ensures.items c.in_ok-view.ensures.passes.passes_are
