-- The proof of `print_child_line`: the line was appended, and then what is full was given.
use Rattle.std.proofs.Common.{refl}
use Rattle.output.proofs.Pieces.{at_error, cut_none, printing_pushed}
use Rattle.vma_replay.proofs.printing.print_child_line.Goals as goal

pub returns-in_err-push_child_line : goal.returns-in_err-push_child_line
returns-in_err-push_child_line g c = at_error _ _ _ _ c.from_residual.ensures.1 (cut_none _ _ _ _ refl)

pub returns : goal.returns
returns g c = printing_pushed _ _ _ _ _ _ _ c.in_ok-push_child_line.ensures c.give_full.ensures.printing
