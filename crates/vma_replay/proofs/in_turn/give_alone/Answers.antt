-- The proof of `give_alone`: the text is printed into an empty piece, and then the rest is given.
use Rattle.std.proofs.Common.{ap, arith, length, refl}
use Rattle.vma_replay.proofs.Alone.{cut_empty, prints_empty}
use Rattle.output.proofs.Pieces.{at_error, cut_none, giving_last}
use Rattle.vma_replay.proofs.in_turn.give_alone.Goals as goal

pub returns-in_err-piece : goal.returns-in_err-piece
returns-in_err-piece g c = at_error _ _ _ _ c.from_residual.ensures.1 (cut_none _ _ _ _ refl)

pub print_alone-requires-clause-held : goal.print_alone-requires-clause-held
print_alone-requires-clause-held g c = omega (arith, ap length c.in_ok-piece.ensures.items)

pub returns-in_err-print_alone : goal.returns-in_err-print_alone
returns-in_err-print_alone g c = at_error _ _ _ _ c.from_residual-in_err-print_alone.ensures.1
    (cut_empty _ _ _ _ _ c.in_ok-piece.ensures.items c.in_err-print_alone.ensures)

pub returns : goal.returns
returns g c = giving_last _ _ _ _ _ _ _ (prints_empty _ _ _ _ _ c.in_ok-piece.ensures.items c.in_ok-print_alone.ensures) c.deref.ensures.value
    c.give_all.ensures
