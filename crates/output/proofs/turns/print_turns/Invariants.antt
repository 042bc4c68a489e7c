-- The proof of `print_turns`: what was done with the lines so far was printed.
use Rattle.std.proofs.Common.{ℕ, ◌≡◌, ◌++◌, List, drop, vec_capacity}
use Rattle.output.specs.Output.{item_text}
use Rattle.output.specs.Giving.{Prints, Pushes}
use Rattle.output.specs.Telling.{told_in_turn}
use Rattle.output.proofs.turns.print_turns.Given as goal

abbrev pub invariant-loop-line : goal.invariant-loop-line
invariant-loop-line g l = (text : List ℕ)
    × Prints (g.K.Sink.seen l.fn.sink) (g.K.Sink.seen l.sink) l.fn.piece.items l.piece.items text
    × (text ++ told_in_turn (item_text l.fn.files) (drop l.line-index l.fn.lines) l.turns ≡ told_in_turn (item_text l.fn.files) l.fn.lines l.fn.turns)
    × Pushes (vec_capacity l.fn.piece) (vec_capacity l.piece) l.fn.piece.items l.piece.items text
