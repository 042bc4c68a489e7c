-- The proof of `map_as`: the pass stays one of the space's, in its place.
use Rattle.std.proofs.Common.{◌≡◌}
use Rattle.fault_path.specs.Passes.{caller}
use Rattle.mm_space.specs.Names.{IsPassOf}
use Rattle.vma_bench.proofs.faults.map_as.Given as goal

abbrev pub invariant-loop-place : goal.invariant-loop-place
invariant-loop-place g l = IsPassOf g.N.SpaceName.name l.pass × (caller l.pass ≡ caller l.fn.pass)
