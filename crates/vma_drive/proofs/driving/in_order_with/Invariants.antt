-- The proof of `in_order_with`: what its loop keeps.
use Rattle.mm_space.specs.Names.{IsPassOf}
use Rattle.vma_drive.proofs.RanLines.{RanTo}
use Rattle.vma_drive.proofs.driving.in_order_with.Given as goal

abbrev pub invariant-loop-line : goal.invariant-loop-line
invariant-loop-line g l = record {
  pass : IsPassOf g.N.SpaceName.name l.pass;
  ran : RanTo l.fn.pass l.pass l.fn.lines l.line-index;
}
