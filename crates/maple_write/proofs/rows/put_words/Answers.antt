-- For `put_words`: the row that was taken is a node of the items.
use Rattle.std.proofs.Common.{◌∙◌, ◌∷◌, ◌<◌, length, set, sym, ap, subst, List, ℕ}
use Rattle.maple_node.specs.declared.item.NodeItem.{NodeItem}
use Rattle.maple_node.specs.Nodes.{node_items}
use Rattle.maple_node.specs.Levels.{at_of, items_at, IsNode, times_among}
use Rattle.node_slots.specs.Seats.{writer_state, free_of}
use Rattle.maple_write.proofs.Writers.{filled_words, taken_row, taken_moved}
use Rattle.maple_write.proofs.Waiting.{fills_one}
use Rattle.maple_write.proofs.Packing.{made-items, made-node}
use Rattle.maple_write.proofs.Blocks.{items-plain}
use Rattle.maple_write.proofs.rows.put_words.Goals as goal

pub returns-clause-node : goal.returns-clause-node
returns-clause-node c limit full =
    let old = c.args.writer.now in
    let leaf = c.args.leaf in
    let items = node_items leaf c.args.words.now in
    let words = filled_words old c.take_row_for.new.self c.fill.new.self c.unwrap-row.result.0 c.from.result c.args.words.now leaf items
    c.take_row_for.ensures.view c.fill.ensures.view c.requires.whole c.from.ensures in
    let there = taken_row old c.take_row_for.new.self c.take_row_for.result c.unwrap-row.result c.unwrap-row.ensures c.take_row_for.ensures.taken c.take_row_for.ensures.view in
    let within = subst (λ (r : ℕ). r < length (writer_state old).words) (sym c.from.ensures) there in
    let until = c.args.end in
    let plain = items-plain leaf c.args.words.now in
    let node = made-node (writer_state old).words c.from.result leaf limit c.args.start until c.args.gap items within c.requires.ascends plain
    c.requires.some c.requires.most full c.requires.end c.requires.gap in
    let item : NodeItem = record { end = until; word = c.from.result; gap = c.args.gap } in
    subst (λ (rs : List (List ℕ)). IsNode (at_of rs) leaf limit c.args.start item) (sym words) node

pub returns-clause-items : goal.returns-clause-items
returns-clause-items c =
    let old = c.args.writer.now in
    let leaf = c.args.leaf in
    let items = node_items leaf c.args.words.now in
    let words = filled_words old c.take_row_for.new.self c.fill.new.self c.unwrap-row.result.0 c.from.result c.args.words.now leaf items
    c.take_row_for.ensures.view c.fill.ensures.view c.requires.whole c.from.ensures in
    let there = taken_row old c.take_row_for.new.self c.take_row_for.result c.unwrap-row.result c.unwrap-row.ensures c.take_row_for.ensures.taken c.take_row_for.ensures.view in
    let within = subst (λ (r : ℕ). r < length (writer_state old).words) (sym c.from.ensures) there in
    ap (λ (rs : List (List ℕ)). items_at (at_of rs) leaf c.from.result) words
    ∙ made-items (writer_state old).words c.from.result leaf c.args.start items within c.requires.ascends (items-plain leaf c.args.words.now)

pub returns-clause-words : goal.returns-clause-words
returns-clause-words c =
    let old = c.args.writer.now in
    let leaf = c.args.leaf in
    filled_words old c.take_row_for.new.self c.fill.new.self c.unwrap-row.result.0 c.from.result c.args.words.now leaf (node_items leaf c.args.words.now)
    c.take_row_for.ensures.view c.fill.ensures.view c.requires.whole c.from.ensures
    ∙ ap (λ (ws : List ℕ). set (writer_state old).words c.from.result ws) (sym c.requires.whole)

pub returns-clause-same : goal.returns-clause-same
returns-clause-same c =
    fills_one c.args.writer.now c.take_row_for.new.self c.fill.new.self c.unwrap-row.result.0 c.args.words.now
    c.take_row_for.ensures.view c.fill.ensures.view c.take_row_for.ensures.left c.fill.ensures.lists.1
    c.take_row_for.ensures.table c.fill.ensures.table

pub returns-clause-free : goal.returns-clause-free
returns-clause-free c =
    (taken_moved (free_of c.args.writer.now) (free_of c.take_row_for.new.self) (free_of c.fill.new.self) c.take_row_for.result c.unwrap-row.result _
    c.unwrap-row.ensures c.take_row_for.ensures.free c.fill.ensures.lists.0).fewer

pub returns-clause-taken : goal.returns-clause-taken
returns-clause-taken c row =
    (taken_moved (free_of c.args.writer.now) (free_of c.take_row_for.new.self) (free_of c.fill.new.self) c.take_row_for.result c.unwrap-row.result _
    c.unwrap-row.ensures c.take_row_for.ensures.free c.fill.ensures.lists.0).times_are row
    ∙ ap (λ (r : ℕ). times_among row (r ∷ free_of c.fill.new.self)) (sym c.from.ensures)
