-- For `down`: the step into the node that has the page.
use Rattle.std.proofs.Common.{◌-◌, ap, arith}
use Rattle.maple_node.specs.Nodes.{node_items}
use Rattle.maple_node.specs.Levels.{is_leaf}
use Rattle.node_slots.specs.Seats.{writer_state}
use Rattle.maple_write.proofs.Writers.{rows_counted}
use Rattle.maple_write.proofs.Finding.{down_from, inside_at}
use Rattle.maple_write.proofs.descent.down.Goals as goal

pub words-words-requires : goal.words-words-requires
words-words-requires c =
    let writer = c.args.writer.now in
    let tree = c.args.tree in
    let begin = c.args.begin in
    let order = c.requires.order in
    let there = down_from (writer_state writer).words tree.top.end tree.height c.args.low begin.level (begin.level - 1) c.args.page tree.top begin.place.item
    c.requires.tower (omega arith) (omega arith) c.requires.high c.requires.begins.item in
    let long = rows_counted writer in
    omega arith

pub item_in-requires-clause-ascends : goal.item_in-requires-clause-ascends
item_in-requires-clause-ascends c =
    let tree = c.args.tree in
    let begin = c.args.begin in
    let order = c.requires.order in
    (inside_at (writer_state c.args.writer.now).words tree.top.end tree.height c.args.low begin.level (begin.level - 1) c.args.page begin.place.start tree.top
    begin.place.item (node_items (is_leaf (begin.level - 1)) c.words-words.result.now) c.requires.tower (omega arith) (omega arith) c.requires.high
    c.requires.begins.item c.requires.begins.start (ap (node_items (is_leaf (begin.level - 1))) c.words-words.ensures)).ascends

pub item_in-requires-clause-within : goal.item_in-requires-clause-within
item_in-requires-clause-within c =
    let tree = c.args.tree in
    let begin = c.args.begin in
    let order = c.requires.order in
    (inside_at (writer_state c.args.writer.now).words tree.top.end tree.height c.args.low begin.level (begin.level - 1) c.args.page begin.place.start tree.top
    begin.place.item (node_items (is_leaf (begin.level - 1)) c.words-words.result.now) c.requires.tower (omega arith) (omega arith) c.requires.high
    c.requires.begins.item c.requires.begins.start (ap (node_items (is_leaf (begin.level - 1))) c.words-words.ensures)).within

pub returns-clause-begins : goal.returns-clause-begins
returns-clause-begins c =
    let tree = c.args.tree in
    let begin = c.args.begin in
    let order = c.requires.order in
    let step = inside_at (writer_state c.args.writer.now).words tree.top.end tree.height c.args.low begin.level (begin.level - 1) c.args.page begin.place.start tree.top
    begin.place.item (node_items (is_leaf (begin.level - 1)) c.words-words.result.now) c.requires.tower (omega arith) (omega arith) c.requires.high
    c.requires.begins.item c.requires.begins.start (ap (node_items (is_leaf (begin.level - 1))) c.words-words.ensures) in
    record {
      item = step.found c.item_in.result.item c.item_in.ensures.item;
      start = step.begins c.item_in.result.start c.item_in.ensures.start;
      above = c.item_in.ensures.above;
    }
