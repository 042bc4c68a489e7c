-- The proof of `print_children`: the children so far were printed.
use Rattle.std.proofs.Common.{ℕ, List}
use Rattle.output.specs.Giving.{Prints}
use Rattle.vma_replay.proofs.FamilyTexts.{ToldChildren}
use Rattle.vma_replay.proofs.printing.print_children.Given as goal

abbrev pub invariant-loop-place : goal.invariant-loop-place
invariant-loop-place g l = (text : List ℕ)
    × Prints (g.K.Sink.seen l.fn.sink) (g.K.Sink.seen l.sink) l.fn.piece.items l.piece.items text
    × ToldChildren l.fn.trace l.fn.forks l.fn.runs l.place text
