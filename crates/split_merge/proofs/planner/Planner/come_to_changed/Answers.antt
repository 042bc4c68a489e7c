-- The parts below the span, within it and above it, one after the other.
use Rattle.std.proofs.Common.{◌++◌, List, map, min, max, arith}
use Rattle.std.proofs.lemmas.List.{length-append, length-map}
use Rattle.mm_types.specs.declared.area.Span.{Span}
use Rattle.mm_types.specs.declared.area.Record.{Record}
use Rattle.area_list.specs.Attributes.{with_attr}
use Rattle.area_list.specs.Changes.{piece, parts_changed}
use Rattle.split_merge.proofs.Steps.{comes_on, comes_room}
use Rattle.split_merge.proofs.planner.Planner.come_to_changed.Goals as goal

abbrev below : Span → Record → List Record
below span area = piece area area.span.lo (min area.span.hi span.lo)

abbrev within : Span → Record → List Record
within span area = piece area (max area.span.lo span.lo) (min area.span.hi span.hi)

abbrev above : Span → Record → List Record
above span area = piece area (max area.span.lo span.hi) area.span.hi

pub come_to_piece-requires-clause-room : goal.come_to_piece-requires-clause-room
unfolding parts_changed
come_to_piece-requires-clause-room c = let area = c.args.area.now in let span = c.args.span.now in
    rw c.min.ensures (omega (arith, c.requires.room, length-append (below span area) (map (with_attr c.args.change) (within span area) ++ above span area)))

pub come_to_within-requires-clause-room : goal.come_to_within-requires-clause-room
unfolding parts_changed
come_to_within-requires-clause-room c = let area = c.args.area.now in let span = c.args.span.now in
    omega (
      arith,
      comes_room (below span area) (map (with_attr c.args.change) (within span area) ++ above span area) (rw c.min.ensures at c.come_to_piece.ensures) c.requires.room,
      length-append (map (with_attr c.args.change) (within span area)) (above span area),
      length-map (within span area) (with_attr c.args.change),
    )

pub come_to_piece-requires-2-clause-room : goal.come_to_piece-requires-2-clause-room
unfolding parts_changed
come_to_piece-requires-2-clause-room c = let area = c.args.area.now in let span = c.args.span.now in
    rw c.max.ensures
    (comes_room (map (with_attr c.args.change) (within span area)) (above span area) c.come_to_within.ensures
    (comes_room (below span area) (map (with_attr c.args.change) (within span area) ++ above span area) (rw c.min.ensures at c.come_to_piece.ensures) c.requires.room))

pub returns : goal.returns
unfolding parts_changed
returns c = let area = c.args.area.now in let span = c.args.span.now in
    comes_on (below span area) (map (with_attr c.args.change) (within span area) ++ above span area) (rw c.min.ensures at c.come_to_piece.ensures)
    (comes_on (map (with_attr c.args.change) (within span area)) (above span area) c.come_to_within.ensures
    (rw c.max.ensures at c.come_to_piece-2.ensures))
