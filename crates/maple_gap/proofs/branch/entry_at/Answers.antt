-- For `entry_at`: the node that is read, and the item in it that has the page.
use Rattle.std.proofs.Common.{◌-◌, refl, ap, arith}
use Rattle.maple_node.specs.Nodes.{node_items}
use Rattle.maple_node.specs.Levels.{is_leaf}
use Rattle.node_slots.specs.Built.{words_at}
use Rattle.maple_gap.specs.Internal.Searches.{with_gap}
use Rattle.maple_gap.proofs.Rows.{node_there}
use Rattle.maple_gap.proofs.Finding.{reach_root, reach_node, inside, reach_down, reach_entry}
use Rattle.maple_gap.proofs.branch.entry_at.Goals as goal

pub loop-branch-init : goal.loop-branch-init
loop-branch-init c = record {
  reached = reach_root (words_at c.args.writer.now) c.args.page c.args.root c.requires.branch c.requires.above c.requires.within;
  cost = omega arith;
}

pub words-words-requires : goal.words-words-requires
words-words-requires c =
    let branch = c.loop-branch.branch in
    let is = c.loop-branch.invariant.reached in
    let level = branch.level - 1 in
    let test = c.loop-branch-test.true in
    node_there c.args.writer.now (is_leaf level) is.limit branch.place.start (with_gap is.gap branch.place.item)
    (reach_node (words_at c.args.writer.now) c.args.page c.args.root branch level is (omega arith))

pub item_in-requires-clause-ascends : goal.item_in-requires-clause-ascends
item_in-requires-clause-ascends c =
    let branch = c.loop-branch.branch in
    let level = branch.level - 1 in
    let test = c.loop-branch-test.true in
    (inside (words_at c.args.writer.now) c.args.page c.args.root branch level (is_leaf level) (node_items (is_leaf level) c.words-words.result.now) c.loop-branch.invariant.reached (omega arith) refl
    (ap (node_items (is_leaf level)) c.words-words.ensures.words)).ascends

pub item_in-requires-clause-within : goal.item_in-requires-clause-within
item_in-requires-clause-within c =
    let branch = c.loop-branch.branch in
    let level = branch.level - 1 in
    let test = c.loop-branch-test.true in
    (inside (words_at c.args.writer.now) c.args.page c.args.root branch level (is_leaf level) (node_items (is_leaf level) c.words-words.result.now) c.loop-branch.invariant.reached (omega arith) refl
    (ap (node_items (is_leaf level)) c.words-words.ensures.words)).within

pub loop-branch-preserved : goal.loop-branch-preserved
loop-branch-preserved c =
    let branch = c.loop-branch.branch in
    let level = branch.level - 1 in
    let test = c.loop-branch-test.true in
    record {
      reached = reach_down (words_at c.args.writer.now) c.args.page c.args.root branch level (is_leaf level) (node_items (is_leaf level) c.words-words.result.now) c.item_in.result c.loop-branch.invariant.reached
          (omega arith) refl (ap (node_items (is_leaf level)) c.words-words.ensures.words) c.item_in.ensures.item c.item_in.ensures.start;
      cost = omega (arith, c.loop-branch.invariant.cost, c.words-words.ensures.reads);
    }

pub returns-clause-item : goal.returns-clause-item
returns-clause-item c =
    let test = c.loop-branch-test.false in
    (reach_entry (words_at c.args.writer.now) c.args.page c.args.root c.loop-branch.branch c.loop-branch.invariant.reached (omega arith)).item

pub returns-clause-start : goal.returns-clause-start
returns-clause-start c =
    let test = c.loop-branch-test.false in
    (reach_entry (words_at c.args.writer.now) c.args.page c.args.root c.loop-branch.branch c.loop-branch.invariant.reached (omega arith)).start
