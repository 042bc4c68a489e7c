-- For `use_all`: the pass is the space's.
use Rattle.space_tests.proofs.operations.use_all.Goals as goal

pub call-called-requires : goal.call-called-requires
call-called-requires g c = (c.open-space.ensures.passes_are.each 0 c.in-Some.pass c.in-Some.ensures.0).0
