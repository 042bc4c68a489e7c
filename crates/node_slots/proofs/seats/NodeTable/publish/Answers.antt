-- For `publish`: the tree is a next one of new rows, and the lists keep what they keep.
use Rattle.std.proofs.Common.{◌+◌, sym, ap, subst, arith}
use Rattle.node_slots.specs.declared.view.ShownTree.{ShownTree}
use Rattle.node_slots.specs.Trees.{shown_rows}
use Rattle.node_slots.specs.Plays.{RowsExist}
use Rattle.node_slots.specs.Views.{named_tree}
use Rattle.node_slots.specs.Seats.{node_sight, writer_state, next_shown, ReachesNewRows}
use Rattle.node_slots.specs.Kept.{firsts_of}
use Rattle.node_slots.proofs.Listing.{publish_lists}
use Rattle.node_slots.proofs.Writers.{new_not_gone, new_all, new_exist, root_within}
use Rattle.node_slots.proofs.seats.NodeTable.publish.Goals as goal

pub publish_root-requires-clause-fits : goal.publish_root-requires-clause-fits
publish_root-requires-clause-fits c =
    let writer = c.args.writer.now in
    record {
      tree = omega (arith, c.requires.number, writer.writer_state.kept.number_is);
      height = omega (arith, c.requires.height);
      row = root_within writer (next_shown writer c.args.root.0 c.args.height) (node_sight writer).size.slots c.requires.rows c.requires.layout;
    }

pub publish_root-requires-clause-exist : goal.publish_root-requires-clause-exist
publish_root-requires-clause-exist c =
    let writer = c.args.writer.now in
    subst (λ n. RowsExist (node_sight writer).size.rows
    (named_tree (node_sight writer).known (record { tree = n + 1; height = c.args.height; row = c.args.root })))
    writer.writer_state.kept.number_is (new_exist writer (next_shown writer c.args.root.0 c.args.height) c.requires.rows)

pub invariant_of-writer : goal.invariant_of-writer
invariant_of-writer c =
    let writer = c.args.writer.now in
    let number = writer.writer_state.kept.number_is in
    let size = ap (λ t. t.size.rows) c.publish_root.ensures.same in
    let shown : ShownTree = named_tree (node_sight writer).known (record { tree = writer.writer_state.root.tree + 1; height = c.args.height; row = c.args.root }) in
    let reaches : ReachesNewRows writer shown =
    subst (λ n. ReachesNewRows writer (named_tree (node_sight writer).known (record { tree = n + 1; height = c.args.height; row = c.args.root }))) number
    c.requires.rows in
    record {
      rows = rw c.publish_root.ensures.same (rw c.publish_root.ensures.view
          (publish_lists writer.writer_state.table.size.rows (writer.writer_state.root.tree + 1) (shown_rows shown) writer.free.items writer.left.items
          (firsts_of writer.notes.items) (writer_state writer)
          writer.rows (ap (λ n. n + 1) (sym number)) writer.writer_state.kept.since (new_not_gone writer shown reaches) (new_all writer shown reaches)));
      places = rw size writer.places;
      untouched = omega (arith, writer.untouched, size, c.publish_root.ensures.words);
      free_room = omega (arith, writer.free_room, size);
      left_room = omega (arith, writer.left_room, size);
    }
