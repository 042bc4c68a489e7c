-- For `renewed`: the node where the new items begin.
use Rattle.std.proofs.Common.{◌≤◌, ◌<◌, ◌∙◌, List, length, ap, subst, arith}
use Rattle.maple_node.specs.declared.item.NodeItem.{NodeItem}
use Rattle.maple_node.specs.Nodes.{words_of_items, node_items, most, least_items}
use Rattle.maple_node.specs.Levels.{is_leaf}
use Rattle.maple_node.specs.Splices.{spliced}
use Rattle.maple_node.specs.Padding.{padded_node}
use Rattle.maple_write.specs.Internal.Tables.{table_at}
use Rattle.maple_write.specs.Internal.Stores.{level_in}
use Rattle.maple_write.proofs.Writers.{rows_counted}
use Rattle.maple_write.proofs.Steps.{there_at}
use Rattle.maple_write.proofs.Renewing.{source_of, renewed_is}
use Rattle.maple_write.proofs.level.renewed.Goals as goal
use Rattle.maple_write.proofs.level.renewed.Goals.{then-left-limit, else-left-limit}

pub words-requires : goal.words-requires
words-requires c =
    let there = there_at (table_at c.args.writer.now) (level_in c.args.state.now) c.args.state.now.lo c.args.left.item c.requires.writing.partly c.requires.below
    c.requires.left.item in
    let row = there.row in
    let long = rows_counted c.args.writer.now in
    omega arith

pub spliced_words-requires-clause-ascends : goal.spliced_words-requires-clause-ascends
spliced_words-requires-clause-ascends c =
    (source_of (table_at c.args.writer.now) (level_in c.args.state.now) c.args.state.now.lo c.args.left.item c.words.result.now c.requires.writing.partly c.requires.below
    c.requires.left.item c.words.ensures).ascends

pub spliced_words-requires-clause-whole : goal.spliced_words-requires-clause-whole
spliced_words-requires-clause-whole c =
    (source_of (table_at c.args.writer.now) (level_in c.args.state.now) c.args.state.now.lo c.args.left.item c.words.result.now c.requires.writing.partly c.requires.below
    c.requires.left.item c.words.ensures).whole

pub spliced_words-requires-clause-end : goal.spliced_words-requires-clause-end
spliced_words-requires-clause-end c =
    (source_of (table_at c.args.writer.now) (level_in c.args.state.now) c.args.state.now.lo c.args.left.item c.words.result.now c.requires.writing.partly c.requires.below
    c.requires.left.item c.words.ensures).ends

pub returns : goal.returns
returns c done =
    let level = level_in c.args.state.now in
    let leaf = is_leaf level.height in
    let left = c.args.left in
    let words = c.words.result.now in
    let within = c.if-left-state.false in
    let same = c.as_slice.ensures.value in
    let fewest = c.if-left-limit.fewest in
    let enough : left.item.end < level.tree.top.end → least_items leaf ≤ fewest = λ inner.
    elim c.if-left-limit.branch as (λ _. least_items leaf ≤ fewest) [
      | then-left-limit w ↦ let e = w.fewest-is in let told = w.least-fewest.ensures in omega arith
      | else-left-limit w ↦ let past = w.if-left-limit.false in absurd (omega arith)
    ] in
    renewed_is (table_at c.args.writer.now) level fewest left words (padded_node c.spliced_words.new.made) c.requires.writing.partly c.requires.below c.requires.left.item
    c.requires.left.start (omega (arith, within)) c.words.ensures
    (c.spliced_words.ensures.words done ∙ ap (λ (xs : List NodeItem). words_of_items leaf (spliced level.lo level.hi xs (node_items leaf words))) same)
    (subst (λ (xs : List NodeItem). length (spliced level.lo level.hi xs (node_items leaf words)) ≤ most leaf) same (c.spliced_words.ensures.most done))
    (subst (λ (xs : List NodeItem). fewest ≤ length (spliced level.lo level.hi xs (node_items leaf words))) same (c.spliced_words.ensures.least done))
    enough
