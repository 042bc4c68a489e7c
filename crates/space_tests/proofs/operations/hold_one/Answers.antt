-- For `hold_one`: the passes are the space's.
use Rattle.space_tests.proofs.operations.hold_one.Goals as goal

pub call-requires : goal.call-requires
call-requires g c = (c.open-space.ensures.passes_are.each 0 c.in-Some.one c.in-Some.ensures.0).0

pub call-requires-2 : goal.call-requires-2
call-requires-2 g c = (c.open-space.ensures.passes_are.each 1 c.in-Some.other c.in-Some.ensures.1).0
