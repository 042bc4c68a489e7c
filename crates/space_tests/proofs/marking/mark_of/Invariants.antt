-- For `mark_of`: the pass stays of its space.
use Rattle.mm_space.specs.Names.{IsPassOf}
use Rattle.space_tests.proofs.marking.mark_of.Given as goal

abbrev pub invariant-loop : goal.invariant-loop
invariant-loop g l = IsPassOf g.N.SpaceName.name l.pass
