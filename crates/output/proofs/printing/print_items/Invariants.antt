-- The proof of `print_items`: the items so far were printed.
use Rattle.std.proofs.Common.{ℕ, List}
use Rattle.output.specs.Output.{item_text}
use Rattle.output.specs.Giving.{Prints}
use Rattle.output.proofs.Telling.{Told}
use Rattle.output.proofs.printing.print_items.Given as goal

abbrev pub invariant-loop-item : goal.invariant-loop-item
invariant-loop-item g l = (text : List ℕ)
    × Prints (g.K.Sink.seen l.fn.sink) (g.K.Sink.seen l.sink) l.fn.piece.items l.piece.items text
    × Told (item_text l.fn.files) l.fn.lines l.fn.items l.item-index l.answered text
