-- For `of_words`: one reader more.
use Rattle.std.proofs.Common.{ℕ, ◌≡◌, ◌∙◌, List, slice_get, Some, sym, ap, subst, arith}
use Rattle.node_slots.specs.declared.seats.NodeSeat.{NodeSeat as Reader}
use Rattle.node_slots.specs.Opening.{IsFreeFrom}
use Rattle.node_slots.specs.Views.{reader_view, after_node_reader, new_node_reader}
use Rattle.node_slots.specs.Seats.{IsOfNodeTable, node_view}
use Rattle.node_slots.proofs.Elements.{each_found}
use Rattle.node_slots.proofs.seats.NodeTable.of_words.Goals as goal

pub loop-reader-preserved : goal.loop-reader-preserved
loop-reader-preserved c =
    let kept = c.loop-reader.invariant in
    let made = c.new_reader.ensures in
    let pushed = c.in_ok-push.ensures in
    let P : ℕ → Reader → Type 0 = λ reader seat. IsOfNodeTable seat c.in_ok-table.table
    × (node_view seat ≡ reader_view (record { rows = c.args.rows; slots = c.args.slots; readers = c.args.readers }) reader) in
    record {
      size = kept.size;
      table = made.table.0;
      writer = made.writer ∙ ap after_node_reader kept.writer;
      free = subst (λ (l : List ℕ). IsFreeFrom 1 c.args.rows l) (sym made.free) kept.free;
      left = made.left ∙ kept.left;
      count = omega (arith, pushed.len, kept.count);
      fresh = λ reader seat. subst (λ (l : List Reader). slice_get l reader ≡ Some seat → P reader seat) (sym pushed.items)
          (each_found P c.loop-reader.seats.items c.new_reader.result kept.fresh (
            made.table.1,
            made.view ∙ ap new_node_reader kept.writer
                ∙ ap (reader_view (record { rows = c.args.rows; slots = c.args.slots; readers = c.args.readers })) (sym kept.count),
          ) reader seat);
    }
