-- For `store_row`: one area more.
use Rattle.std.proofs.Common.{ℕ, ◌+◌, ◌*◌, ◌≤◌, length, sym, subst, ap, ◌∙◌, true, arith}
use Rattle.maple_node.specs.Pairs.{overwritten}
use Rattle.area_tree.specs.SpanTrees.{SpanView}
use Rattle.tree_tests.proofs.Rows.{few_pairs, next_row}
use Rattle.tree_tests.proofs.search_tests.store_row.Goals as goal

pub store-requires-clause-few : goal.store-requires-clause-few
store-requires-clause-few c =
    let tree = c.loop-place.tree in
    let place = c.loop-place.place in
    let Few : ℕ → Type 0 = λ n. length (overwritten (16 + 2 * n) (16 + 2 * n + 1) (place + 1) tree.pairs) ≤ tree.areas in
    subst Few (sym c.from.ensures) (few_pairs tree place c.loop-place.invariant (omega arith))

pub loop-place-preserved : goal.loop-place-preserved
loop-place-preserved c =
    let tree = c.loop-place.tree in
    let place = c.loop-place.place in
    let After : ℕ → SpanView = λ n. record tree { pairs = overwritten (16 + 2 * n) (16 + 2 * n + 1) (place + 1) tree.pairs; changed = true; free = c.store.new.self.free } in
    next_row tree c.store.new.self place c.store.new.self.free c.loop-place.invariant (c.store.ensures ∙ ap After c.from.ensures)
