-- The parts outside the spans, one after the other.
use Rattle.std.proofs.Common.{◌++◌, List, min, max, arith}
use Rattle.std.proofs.lemmas.List.{length-append}
use Rattle.mm_types.specs.declared.area.Span.{Span}
use Rattle.mm_types.specs.declared.area.Record.{Record}
use Rattle.area_list.specs.Changes.{piece}
use Rattle.split_merge.specs.Internal.Becoming.{parts_outside_both}
use Rattle.split_merge.proofs.Steps.{comes_on, comes_room}
use Rattle.split_merge.proofs.planner.Planner.come_to_outside.Goals as goal

abbrev below : Span → Record → List Record
below low area = piece area area.span.lo (min area.span.hi low.lo)

abbrev between : Span → Span → Record → List Record
between low high area = piece area (max area.span.lo low.hi) (min area.span.hi high.lo)

abbrev above : Span → Record → List Record
above high area = piece area (max area.span.lo high.hi) area.span.hi

pub come_to_piece-requires-clause-room : goal.come_to_piece-requires-clause-room
unfolding parts_outside_both
come_to_piece-requires-clause-room c = let area = c.args.area.now in let low = c.args.low.now in let high = c.args.high.now in
    rw c.min.ensures (omega (arith, c.requires.room, length-append (below low area) (between low high area ++ above high area)))

pub come_to_piece-requires-2-clause-room : goal.come_to_piece-requires-2-clause-room
unfolding parts_outside_both
come_to_piece-requires-2-clause-room c = let area = c.args.area.now in let low = c.args.low.now in let high = c.args.high.now in
    rw (c.max.ensures, c.min-2.ensures) (omega (
      arith,
      comes_room (below low area) (between low high area ++ above high area) (rw c.min.ensures at c.come_to_piece.ensures) c.requires.room,
      length-append (between low high area) (above high area),
    ))

pub come_to_piece-requires-3-clause-room : goal.come_to_piece-requires-3-clause-room
unfolding parts_outside_both
come_to_piece-requires-3-clause-room c = let area = c.args.area.now in let low = c.args.low.now in let high = c.args.high.now in
    rw c.max-2.ensures
    (comes_room (between low high area) (above high area) (rw (c.max.ensures, c.min-2.ensures) at c.come_to_piece-2.ensures)
    (comes_room (below low area) (between low high area ++ above high area) (rw c.min.ensures at c.come_to_piece.ensures) c.requires.room))

pub returns : goal.returns
unfolding parts_outside_both
returns c = let area = c.args.area.now in let low = c.args.low.now in let high = c.args.high.now in
    comes_on (below low area) (between low high area ++ above high area) (rw c.min.ensures at c.come_to_piece.ensures)
    (comes_on (between low high area) (above high area) (rw (c.max.ensures, c.min-2.ensures) at c.come_to_piece-2.ensures)
    (rw c.max-2.ensures at c.come_to_piece-3.ensures))
