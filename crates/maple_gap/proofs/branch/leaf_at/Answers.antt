-- For `leaf_at`: the node that is read, and the item in it that has the page.
use Rattle.std.proofs.Common.{◌-◌, false, ap, arith}
use Rattle.maple_node.specs.Nodes.{node_items}
use Rattle.maple_node.specs.Levels.{is_leaf}
use Rattle.node_slots.specs.Built.{words_at}
use Rattle.maple_gap.specs.Internal.Searches.{with_gap}
use Rattle.maple_gap.proofs.Rows.{node_there}
use Rattle.maple_gap.proofs.Finding.{around_root, reach_node, inside, around_down, around_part, not_leaf}
use Rattle.maple_gap.proofs.branch.leaf_at.Goals as goal

pub loop-branch-init : goal.loop-branch-init
loop-branch-init c = record {
  around = around_root (words_at c.args.writer.now) c.args.page c.args.root c.requires.branch c.requires.above c.requires.within;
  low = omega arith;
  cost = omega arith;
}

pub words-words-requires : goal.words-words-requires
words-words-requires c =
    let branch = c.loop-branch.branch in
    let reached = c.loop-branch.invariant.around.here in
    let level = branch.level - 1 in
    let test = c.loop-branch-test.true in
    node_there c.args.writer.now (is_leaf level) reached.limit branch.place.start (with_gap reached.gap branch.place.item)
    (reach_node (words_at c.args.writer.now) c.args.page c.args.root branch level reached (omega arith))

pub item_in-requires-clause-ascends : goal.item_in-requires-clause-ascends
item_in-requires-clause-ascends c =
    let branch = c.loop-branch.branch in
    let level = branch.level - 1 in
    let test = c.loop-branch-test.true in
    (inside (words_at c.args.writer.now) c.args.page c.args.root branch level false (node_items false c.words-words.result.now) c.loop-branch.invariant.around.here (omega arith) (not_leaf branch.level test)
    (ap (node_items false) c.words-words.ensures.words)).ascends

pub item_in-requires-clause-within : goal.item_in-requires-clause-within
item_in-requires-clause-within c =
    let branch = c.loop-branch.branch in
    let level = branch.level - 1 in
    let test = c.loop-branch-test.true in
    (inside (words_at c.args.writer.now) c.args.page c.args.root branch level false (node_items false c.words-words.result.now) c.loop-branch.invariant.around.here (omega arith) (not_leaf branch.level test)
    (ap (node_items false) c.words-words.ensures.words)).within

pub loop-branch-preserved : goal.loop-branch-preserved
loop-branch-preserved c =
    let branch = c.loop-branch.branch in
    let level = branch.level - 1 in
    let test = c.loop-branch-test.true in
    record {
      around = around_down (words_at c.args.writer.now) c.args.page c.args.root branch level false (node_items false c.words-words.result.now) c.item_in.result c.loop-branch.invariant.around
          (omega arith) (not_leaf branch.level test) (ap (node_items false) c.words-words.ensures.words) c.item_in.ensures.item c.item_in.ensures.start;
      low = omega (arith, c.loop-branch.invariant.low);
      cost = omega (arith, c.loop-branch.invariant.cost, c.words-words.ensures.reads);
    }

pub returns-clause-branch : goal.returns-clause-branch
returns-clause-branch c = let reached = c.loop-branch.invariant.around.here in record { limit = reached.limit; gap = reached.gap; under = reached.under }

pub returns-clause-above : goal.returns-clause-above
returns-clause-above c = c.loop-branch.invariant.around.here.above

pub returns-clause-within : goal.returns-clause-within
returns-clause-within c = c.loop-branch.invariant.around.here.within

pub returns-clause-same : goal.returns-clause-same
returns-clause-same c =
    around_part (words_at c.args.writer.now) c.args.page c.args.root c.loop-branch.branch c.loop-branch.invariant.around
