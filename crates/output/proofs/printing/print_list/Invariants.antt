-- The proof of `print_list`: the lines of the areas so far were printed.
use Rattle.std.proofs.Common.{take, vec_capacity}
use Rattle.mm_types.specs.MapsText.{list_text}
use Rattle.output.specs.Giving.{Prints, Pushes}
use Rattle.output.proofs.printing.print_list.Given as goal

abbrev pub invariant-loop-area : goal.invariant-loop-area
invariant-loop-area g l = record {
  printed : Prints (g.K.Sink.seen l.fn.sink) (g.K.Sink.seen l.sink) l.fn.piece.items l.piece.items (list_text l.files (take l.area-index l.areas));
  fits : Pushes (vec_capacity l.fn.piece) (vec_capacity l.piece) l.fn.piece.items l.piece.items (list_text l.files (take l.area-index l.areas));
}
