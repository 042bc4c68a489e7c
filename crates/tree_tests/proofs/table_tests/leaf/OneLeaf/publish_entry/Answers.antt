-- For `OneLeaf::publish_entry`: the new tree is a leaf in the row that was taken, and each other row is free or was left.
use Rattle.std.proofs.Common.{◌≡◌, ◌<◌, ◌∙◌, ◌+◌, ◌∷◌, ◌++◌, [], ℕ, refl, sym, ap, subst, arith, List, length, get_or-set_same}
use Rattle.grace_core.specs.Core.{times}
use Rattle.maple_node.specs.Levels.{at_of}
use Rattle.node_slots.specs.declared.view.NodeView.{NodeView}
use Rattle.node_slots.specs.declared.view.Size.{Size}
use Rattle.node_slots.specs.Seats.{node_sight, writer_state, free_of, retired_rows, row_count, is_present}
use Rattle.node_slots.proofs.Counting.{times_last, one_if}
use Rattle.node_slots.proofs.Listing.{kept_from}
use Rattle.tree_tests.proofs.Leaves.{leaf_rows, leaf_layout, next_alone, alone_reached}
use Rattle.node_slots.proofs.Writers.{writer_taken}
use Rattle.tree_tests.proofs.table_tests.leaf.OneLeaf.publish_entry.Goals as goal

pub leave-requires-clause-kept : goal.leave-requires-clause-kept
leave-requires-clause-kept c =
    let old = c.args.self.now.writer in
    let row = c.args.self.now.row.0 in
    let filled = c.fill.new.writer in
    let kept = c.args.self.now.kept.1 in
    let sizes = ap (λ (v : NodeView). v.size) c.fill.ensures.view ∙ ap (λ (v : NodeView). v.size) c.in_ok-row.ensures.view in
    let within : row < row_count filled = subst (λ (s : Size). row < s.rows) (sym sizes) kept.within in
    let count = ap (times row) c.in_ok-row.ensures.free ∙ times_last row c.in_ok-row.row.0 (free_of c.take_row.new.writer) in
    let free = ap (times row) c.fill.ensures.lists.0 in
    let left = ap (times row) (c.fill.ensures.lists.1 ∙ c.in_ok-row.ensures.left) in
    kept_from (row_count filled) row (times row (free_of filled) + times row (retired_rows filled)) within
    (omega (arith, kept.alone row kept.within, one_if row row refl, count, free, left))

pub publish-requires-clause-layout : goal.publish-requires-clause-layout
publish-requires-clause-layout c =
    let next = c.leave.new.writer in
    let row = c.in_ok-row.row.0 in
    let taken = c.take_row.new.writer in
    let filled = c.leave.ensures.view ∙ c.fill.ensures.view in
    let within = (writer_taken taken row c.in_ok-row.ensures.taken).0 in
    let known = taken.writer_state.kept in
    let low : row < length (node_sight taken).known.writer_state.words = omega (arith, within, known.rows, ap length known.words_are) in
    let words = ap (λ (v : NodeView). at_of v.known.writer_state.words row) filled ∙ get_or-set_same _ _ _ _ low ∙ c.leaf_words-words.ensures in
    let slots = ap (λ (v : NodeView). v.size.slots) filled ∙ ap (λ (v : NodeView). v.size.slots) c.in_ok-row.ensures.view
    ∙ c.args.self.now.kept.1.slots in
    leaf_layout (at_of (writer_state next).words) (node_sight next).size.slots ((writer_state next).tree.number + 1) row c.args.end.0 _ words
    c.requires.end (omega (arith, slots, c.requires.slot))

pub publish-requires-clause-rows : goal.publish-requires-clause-rows
publish-requires-clause-rows c = λ other.
    let next = c.leave.new.writer in
    let old = c.args.self.now.writer in
    let row = c.in_ok-row.row.0 in
    let taken = c.take_row.new.writer in
    let filled = c.fill.new.writer in
    let size = ap (λ (v : NodeView). v.size) (c.leave.ensures.view ∙ c.fill.ensures.view) in
    let sizes = size ∙ ap (λ (v : NodeView). v.size) c.in_ok-row.ensures.view in
    let within = (writer_taken taken row c.in_ok-row.ensures.taken).0 in
    let low : row < row_count next = subst (λ (s : Size). row < s.rows) (sym (size ∙ taken.writer_state.kept.size_is)) within in
    let left = ap (times other) (c.fill.ensures.lists.1 ∙ c.in_ok-row.ensures.left) in
    ap (times other) (leaf_rows (writer_state next).words ((writer_state next).tree.number + 1) row)
    ∙ alone_reached (row_count next) row other (times other (free_of next) + times other (retired_rows next)) low
    (λ inside. next_alone other c.args.self.now.row.0 row (is_present filled c.args.self.now.row.0) (free_of old) (free_of filled) (retired_rows filled)
    (free_of next) (retired_rows next) (c.in_ok-row.ensures.free ∙ ap (λ (l : List ℕ). l ++ row ∷ []) (sym c.fill.ensures.lists.0)) c.leave.ensures.free
    c.leave.ensures.left
    (omega (arith, left, c.args.self.now.kept.1.alone other (subst (λ (s : Size). other < s.rows) sizes inside))))

pub invariant_of-self-2 : goal.invariant_of-self-2
invariant_of-self-2 c =
    let next = c.leave.new.writer in
    let old = c.args.self.now.writer in
    let row = c.in_ok-row.row.0 in
    let taken = c.take_row.new.writer in
    let filled = c.fill.new.writer in
    let shown = c.publish.new.writer in
    let size = ap (λ (v : NodeView). v.size) c.publish.ensures.view ∙ ap (λ (v : NodeView). v.size) (c.leave.ensures.view ∙ c.fill.ensures.view) in
    let sizes = size ∙ ap (λ (v : NodeView). v.size) c.in_ok-row.ensures.view in
    let within = (writer_taken taken row c.in_ok-row.ensures.taken).0 in
    let number : (u v : NodeView) → u ≡ v → u.known.writer_state.tree.number ≡ v.known.writer_state.tree.number = λ u v is.
    ap (λ (w : NodeView). w.known.writer_state.tree.number) is in
    record {
      kept = (
        c.publish.ensures.table,
        record {
          within = subst (λ (s : Size). row < s.rows) (sym (size ∙ taken.writer_state.kept.size_is)) within;
          alone = λ other low.
              let left = ap (times other) (c.fill.ensures.lists.1 ∙ c.in_ok-row.ensures.left) in
              let alone = next_alone other c.args.self.now.row.0 row (is_present filled c.args.self.now.row.0) (free_of old) (free_of filled)
              (retired_rows filled) (free_of next) (retired_rows next)
              (c.in_ok-row.ensures.free ∙ ap (λ (l : List ℕ). l ++ row ∷ []) (sym c.fill.ensures.lists.0)) c.leave.ensures.free c.leave.ensures.left
              (omega (arith, left, c.args.self.now.kept.1.alone other (subst (λ (s : Size). other < s.rows) sizes low))) in
              omega (arith, alone, ap (times other) c.publish.ensures.lists.0, ap (times other) c.publish.ensures.lists.1);
          slots = ap (λ (s : Size). s.slots) sizes ∙ c.args.self.now.kept.1.slots;
        },
      );
      number = number _ _ c.publish.ensures.view
          ∙ ap (λ (n : ℕ). n + 1) (number _ _ (c.leave.ensures.view ∙ c.fill.ensures.view) ∙ number _ _ c.in_ok-row.ensures.view ∙ c.args.self.now.number);
    }
