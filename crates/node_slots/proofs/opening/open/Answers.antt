-- For `open`: the lists of a new table's writer.
use Rattle.std.proofs.Common.{◌∙◌, ap, arith}
use Rattle.node_slots.specs.Kept.{firsts_of}
use Rattle.node_slots.proofs.Notes.{firsts_new}
use Rattle.node_slots.proofs.Spots.{places_new}
use Rattle.node_slots.proofs.Starting.{opening_rows}
use Rattle.node_slots.proofs.opening.open.Goals as goal

pub invariant_of-writer : goal.invariant_of-writer
invariant_of-writer c =
    let made = c.in_ok-table.ensures.seat in
    let size = ap (λ s. s.rows) made.1 in
    record {
      rows = opening_rows _ _ _ _ _ _ c.requires.size c.in_ok-first_free.ensures.free
          (ap firsts_of (c.in_ok-vec.ensures.items_if_clones_equal (λ y e. e)) ∙ firsts_new _ _)
          c.in_ok-with_capacity.ensures.items made.1 made.2;
      places = rw size (places_new _ _ _ c.in_ok-first_free.ensures.order);
      untouched = omega (arith, size, c.in_ok-table.ensures.blank, c.requires.size.some_rows);
      free_room = omega (arith, size, c.in_ok-first_free.ensures.room);
      left_room = omega (arith, size, c.in_ok-with_capacity.ensures.capacity);
    }
