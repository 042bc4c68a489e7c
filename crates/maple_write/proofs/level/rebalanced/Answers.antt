-- For `rebalanced`: the next node, whole.
use Rattle.std.proofs.Common.{◌∙◌, ◌++◌, ◌≤◌, ℕ, List, length, ap, sym, subst, arith}
use Rattle.maple_node.specs.declared.item.NodeItem.{NodeItem}
use Rattle.maple_node.specs.Nodes.{least_items, node_items}
use Rattle.maple_node.specs.Levels.{is_leaf}
use Rattle.maple_write.specs.Internal.Tables.{table_at}
use Rattle.maple_write.specs.Internal.Stores.{level_in, Cut}
use Rattle.maple_write.proofs.Writers.{rows_counted}
use Rattle.maple_write.proofs.Steps.{upper_of, there_at, cut_more, cut_enough}
use Rattle.maple_write.proofs.level.rebalanced.Goals as goal

pub find-next-requires-clause-tower : goal.find-next-requires-clause-tower
find-next-requires-clause-tower c = (upper_of (table_at c.args.writer.now) (level_in c.args.state.now) c.requires.writing.partly c.requires.below).above

pub words-next_words-requires : goal.words-next_words-requires
words-next_words-requires c =
    let there = there_at (table_at c.args.writer.now) (level_in c.args.state.now) c.cut-edges.result.end c.find-next.result.item
    c.requires.writing.partly c.requires.below c.find-next.ensures.item in
    let row = there.row in
    let long = rows_counted c.args.writer.now in
    omega arith

pub returns-then-edges-state-clause-cut : goal.returns-then-edges-state-clause-cut
returns-then-edges-state-clause-cut c =
    let table = table_at c.args.writer.now in
    let level = level_in c.args.state.now in
    let cut = c.cut-edges.result in
    let begun = c.cut-edges.new.items.items in
    let next = c.find-next.result.item in
    let short = c.if-len-least.true in
    let count = c.len.ensures.value in
    let bound = c.least.ensures in
    let joined = c.push_part.ensures.items ∙ ap (λ (words : List ℕ). begun ++ node_items (is_leaf level.height) words) c.words-next_words.ensures in
    subst (λ (xs : List NodeItem). Cut table level cut.begin next.end xs) (sym joined)
    (cut_more table level cut.begin cut.end begun next c.requires.writing.partly c.requires.below c.cut-edges.ensures
    c.find-next.ensures.item (omega arith))

pub returns-then-edges-state-clause-least : goal.returns-then-edges-state-clause-least
returns-then-edges-state-clause-least c inner =
    let table = table_at c.args.writer.now in
    let level = level_in c.args.state.now in
    let cut = c.cut-edges.result in
    let begun = c.cut-edges.new.items.items in
    let joined = c.push_part.ensures.items ∙ ap (λ (words : List ℕ). begun ++ node_items (is_leaf level.height) words) c.words-next_words.ensures in
    subst (λ (xs : List NodeItem). least_items (is_leaf level.height) ≤ length xs) (sym joined)
    (cut_enough table level cut.begin cut.end begun c.find-next.result.item c.requires.writing.partly c.requires.below c.cut-edges.ensures
    c.find-next.ensures.item inner)
