-- The proof of `call_elsewhere`: the pass stays one of the space's.
use Rattle.mm_space.specs.Names.{IsPassOf}
use Rattle.vma_bench.proofs.faults.call_elsewhere.Given as goal

abbrev pub invariant-loop : goal.invariant-loop
invariant-loop g l = IsPassOf g.N.SpaceName.name l.pass
