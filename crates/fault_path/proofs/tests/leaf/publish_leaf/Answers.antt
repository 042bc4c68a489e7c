-- For `publish_leaf`: the new tree is a leaf in the row that was taken, and each other row is free or was left.
use Rattle.std.proofs.Common.{◌<◌, ◌∙◌, ◌+◌, ◌∷◌, ◌++◌, [], sym, ap, subst, arith, List, ℕ, length, get_or-set_same}
use Rattle.grace_core.specs.Core.{times}
use Rattle.maple_node.specs.Levels.{at_of}
use Rattle.node_slots.specs.declared.view.NodeView.{NodeView}
use Rattle.node_slots.specs.declared.view.Size.{Size}
use Rattle.node_slots.specs.Seats.{node_sight, writer_state, free_of, retired_rows, row_count, is_present}
use Rattle.fault_path.proofs.Leaves.{leaf_rows, leaf_layout, next_alone, alone_reached}
use Rattle.node_slots.proofs.Writers.{writer_taken}
use Rattle.fault_path.proofs.tests.leaf.publish_leaf.Goals as goal

pub publish-requires-clause-layout : goal.publish-requires-clause-layout
publish-requires-clause-layout c =
    let next = c.leave.new.writer in
    let row = c.in_ok-row.row.0 in
    let taken = c.take_row.new.writer in
    let filled = c.leave.ensures.view ∙ c.fill.ensures.view in
    let within = (writer_taken taken row c.in_ok-row.ensures.taken).0 in
    let known = taken.writer_state.kept in
    let low : row < length (node_sight taken).known.writer_state.words = omega (arith, within, known.rows, ap length known.words_are) in
    let words = ap (λ (v : NodeView). at_of v.known.writer_state.words row) filled ∙ get_or-set_same _ _ _ _ low ∙ c.leaf_words-words.ensures in
    let slots = ap (λ (v : NodeView). v.size.slots) filled ∙ ap (λ (v : NodeView). v.size.slots) c.in_ok-row.ensures.view
    ∙ c.requires.alone.slots in
    leaf_layout (at_of (writer_state next).words) (node_sight next).size.slots ((writer_state next).tree.number + 1) row c.args.end.0 _ words
    c.requires.end (omega (arith, slots))

pub publish-requires-clause-rows : goal.publish-requires-clause-rows
publish-requires-clause-rows c = λ other.
    let next = c.leave.new.writer in
    let old = c.args.writer.now in
    let row = c.in_ok-row.row.0 in
    let taken = c.take_row.new.writer in
    let filled = c.fill.new.writer in
    let size = ap (λ (v : NodeView). v.size) (c.leave.ensures.view ∙ c.fill.ensures.view) in
    let sizes = size ∙ ap (λ (v : NodeView). v.size) c.in_ok-row.ensures.view in
    let within = (writer_taken taken row c.in_ok-row.ensures.taken).0 in
    let low : row < row_count next = subst (λ (s : Size). row < s.rows) (sym (size ∙ taken.writer_state.kept.size_is)) within in
    let left = ap (times other) (c.fill.ensures.lists.1 ∙ c.in_ok-row.ensures.left) in
    ap (times other) (leaf_rows (writer_state next).words ((writer_state next).tree.number + 1) row)
    ∙ alone_reached (row_count next) row other (times other (free_of next) + times other (retired_rows next)) low
    (λ inside. next_alone other 0 row (is_present filled 0) (free_of old) (free_of filled) (retired_rows filled)
    (free_of next) (retired_rows next) (c.in_ok-row.ensures.free ∙ ap (λ (l : List ℕ). l ++ row ∷ []) (sym c.fill.ensures.lists.0)) c.leave.ensures.free
    c.leave.ensures.left
    (omega (arith, left, c.requires.alone.alone other (subst (λ (s : Size). other < s.rows) sizes inside))))
