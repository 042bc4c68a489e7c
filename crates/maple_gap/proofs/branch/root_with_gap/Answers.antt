-- For `root_with_gap`: the root is a node of the table, whose items ascend; and its gap is theirs.
use Rattle.std.proofs.Common.{◌-◌, ◌∙◌, nat_eq, List, ap, sym, subst, arith}
use Rattle.maple_node.specs.declared.item.NodeItem.{NodeItem}
use Rattle.maple_node.specs.Nodes.{Ascends, node_items}
use Rattle.maple_node.specs.Levels.{is_leaf, items_at}
use Rattle.node_slots.specs.Built.{words_at}
use Rattle.maple_gap.specs.Internal.Searches.{with_gap}
use Rattle.maple_gap.proofs.Rows.{node_there}
use Rattle.maple_gap.proofs.Roots.{any_entry, any_node, one_less, gapped}
use Rattle.maple_gap.proofs.branch.root_with_gap.Goals as goal

pub returns-then-root-eq0-clause-branch : goal.returns-then-root-eq0-clause-branch
returns-then-root-eq0-clause-branch c =
    any_entry (words_at c.args.writer.now) c.root_of-root.result c.root_of-root.ensures.root.branch c.if-root-eq0.true

pub words-words-requires : goal.words-words-requires
words-words-requires c =
    let root = c.root_of-root.result in
    let is = c.root_of-root.ensures.root.branch in
    let test = c.if-root-eq0.false in
    node_there c.args.writer.now (is_leaf (root.level - 1)) is.limit root.place.start (with_gap is.gap root.place.item)
    (any_node (words_at c.args.writer.now) root is (omega arith))

pub gap_in-gap-requires : goal.gap_in-gap-requires
gap_in-gap-requires c =
    let at = words_at c.args.writer.now in
    let root = c.root_of-root.result in
    let test = c.if-root-eq0.false in
    let leaf = nat_eq root.level 1 in
    let are = ap (node_items leaf) c.words-words.ensures.words ∙ ap (λ b. items_at at b root.place.item.word) (one_less root.level (omega arith)) in
    subst (λ (xs : List NodeItem). Ascends root.place.start xs) (sym are) (any_node at root c.root_of-root.ensures.root.branch (omega arith)).ascends

pub returns-clause-root : goal.returns-clause-root
returns-clause-root c =
    let root = c.root_of-root.result in
    let test = c.if-root-eq0.false in
    let leaf = nat_eq root.level 1 in
    (gapped c.args.writer.now c.args.tree.now root leaf (node_items leaf c.words-words.result.now) c.gap_in-gap.result c.root_of-root.ensures.root (omega arith)
    (one_less root.level (omega arith)) (ap (node_items leaf) c.words-words.ensures.words) c.gap_in-gap.ensures).root

pub returns-clause-branch : goal.returns-clause-branch
returns-clause-branch c =
    let root = c.root_of-root.result in
    let test = c.if-root-eq0.false in
    let leaf = nat_eq root.level 1 in
    (gapped c.args.writer.now c.args.tree.now root leaf (node_items leaf c.words-words.result.now) c.gap_in-gap.result c.root_of-root.ensures.root (omega arith)
    (one_less root.level (omega arith)) (ap (node_items leaf) c.words-words.ensures.words) c.gap_in-gap.ensures).right
