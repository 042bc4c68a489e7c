-- For `swapped`: the node where the new item begins.
use Rattle.std.proofs.Common.{◌∙◌, ◌≡◌, List, [], ◌∷◌, get_or, IfSome, sym, ap, arith}
use Rattle.std.proofs.lemmas.Option.{IfSome_then}
use Rattle.maple_node.specs.declared.item.NodeItem.{NodeItem}
use Rattle.maple_write.specs.Internal.Tables.{table_at}
use Rattle.maple_write.specs.Internal.Stores.{level_in}
use Rattle.maple_write.proofs.Swapping.{Children, children_of, Swapped, swapped_is, if_three, only, only_ends, ends_before, if_none}
use Rattle.maple_write.proofs.level.swapped.Goals as goal
use Rattle.maple_write.proofs.level.swapped.Goals.{After-as_slice, After-swap_child}

-- what the words tell
source : (c : After-as_slice) → Children c.args.words.now c.args.state.now.lo c.args.left.item.end c.args.left.item.gap
source c =
    children_of (table_at c.args.writer.now) (level_in c.args.state.now) c.args.left.item c.args.words.now
    c.requires.writing.partly c.requires.below c.requires.inner c.requires.left.item c.requires.words

pub swap_child-requires-clause-ascends : goal.swap_child-requires-clause-ascends
swap_child-requires-clause-ascends c = (source (goal.at.swap_child-requires-clause-ascends c).After-as_slice).ascends

pub swap_child-requires-clause-within : goal.swap_child-requires-clause-within
swap_child-requires-clause-within c = (source (goal.at.swap_child-requires-clause-within c).After-as_slice).within

pub swap_child-requires-clause-whole : goal.swap_child-requires-clause-whole
swap_child-requires-clause-whole c = (source (goal.at.swap_child-requires-clause-whole c).After-as_slice).whole

pub swap_child-requires-clause-gap : goal.swap_child-requires-clause-gap
swap_child-requires-clause-gap c = (source (goal.at.swap_child-requires-clause-gap c).After-as_slice).largest

-- what is so of the node anew
anew : (c : After-swap_child) → IfSome c.swap_child.result (Swapped (table_at c.args.writer.now) (level_in c.args.state.now) c.args.left
    c.swap_child.new.words)
anew c =
    let level = level_in c.args.state.now in
    let none : NodeItem = record { end = 0; word = 0; gap = 0 } in
    let within = c.if-left-state.false in
    let child = get_or c.as_slice.result.now 0 none in
    let one : level.new ≡ child ∷ [] = only level.new none c.requires.one ∙ ap (λ (xs : List NodeItem). get_or xs 0 none ∷ []) (sym c.as_slice.ensures.value) in
    if_three c.swap_child.result c.swap_child.ensures.words c.swap_child.ensures.count c.swap_child.ensures.gap
    (λ gap told count largest. swapped_is (table_at c.args.writer.now) level c.args.left child c.args.words.now c.swap_child.new.words gap
    c.requires.writing.partly c.requires.below c.requires.inner one c.requires.left.item c.requires.left.start (omega (arith, within))
    c.requires.words told count largest)

pub returns-clause-renewed : goal.returns-clause-renewed
returns-clause-renewed c =
    IfSome_then c.swap_child.result (anew (goal.at.returns-clause-renewed c).After-swap_child) (λ gap is. is.renewed)

pub returns-clause-gap : goal.returns-clause-gap
returns-clause-gap c =
    IfSome_then c.swap_child.result (anew (goal.at.returns-clause-gap c).After-swap_child) (λ gap is. is.largest)

pub returns-then-left-state-clause-none : goal.returns-then-left-state-clause-none
returns-then-left-state-clause-none c child found =
    let level = level_in c.args.state.now in
    let is = children_of (table_at c.args.writer.now) level c.args.left.item c.args.words.now c.requires.writing.partly c.requires.below c.requires.inner
    c.requires.left.item c.requires.words in
    ends_before c.args.words.now level.lo c.args.left.item.end c.args.left.item.gap level.hi child is c.if-left-state.true found

pub returns-clause-none : goal.returns-clause-none
returns-clause-none c =
    let level = level_in c.args.state.now in
    let none : NodeItem = record { end = 0; word = 0; gap = 0 } in
    let child = get_or c.as_slice.result.now 0 none in
    let one : level.new ≡ child ∷ [] = only level.new none c.requires.one ∙ ap (λ (xs : List NodeItem). get_or xs 0 none ∷ []) (sym c.as_slice.ensures.value) in
    let ends = only_ends (table_at c.args.writer.now) level child c.requires.writing.partly one in
    if_none c.swap_child.result c.swap_child.ensures.elsewhere (λ told item found same. told item found (same ∙ sym ends))
