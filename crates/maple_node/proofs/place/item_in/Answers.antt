-- For `item_in`: the place of the item that has the page.
use Rattle.std.proofs.Common.{ℕ, ◌≡◌, ◌≤◌, ◌<◌, ◌+◌, Bool, List, length, get_or, Some, sym, ap, subst, ◌∙◌, arith}
use Rattle.maple_node.specs.declared.item.NodeItem.{NodeItem}
use Rattle.maple_node.specs.Codec.{width_of}
use Rattle.maple_node.proofs.Listed.{Comes, Found, listed, comes_more, comes_there}
use Rattle.maple_node.proofs.Spliced.{ends_at, some_words}
use Rattle.maple_node.specs.Codec.{listed_at}
use Rattle.maple_node.proofs.place.item_in.Goals as goal

there : (leaf : Bool) (start page place begin width : ℕ) (words : List ℕ) → width ≡ width_of leaf → Comes leaf start page place begin words → place + width ≤ length words
there leaf start page place begin width words wide comes =
    let room = (listed leaf words place begin page comes.above comes.within).room in omega (arith, room, wide)

-- the item at the place has the page
found : (leaf : Bool) (start page begin place : ℕ) (words : List ℕ) → Comes leaf start page place begin words → page < get_or words place 0
    → Found leaf start page begin words (listed_at leaf words place)
found leaf start page begin place words comes past =
    comes_there leaf start page place begin words comes (omega (arith, ends_at leaf words place, past))

comes_next : (leaf : Bool) (start page begin place width : ℕ) (words : List ℕ) → width ≡ width_of leaf → Comes leaf start page place begin words → get_or words place 0 ≤ page
    → Comes leaf start page (place + width) (get_or words place 0) words
comes_next leaf start page begin place width words wide comes ends =
    subst (λ (n : ℕ). Comes leaf start page (place + n) (get_or words place 0) words) (sym wide)
    (subst (λ (n : ℕ). Comes leaf start page (place + width_of leaf) n words) (ends_at leaf words place)
    (comes_more leaf start page place begin words comes (omega (arith, ends_at leaf words place, ends))))

pub offset_bounds-words-place : goal.offset_bounds-words-place
offset_bounds-words-place c =
    let is = c.loop-place.invariant in
    omega (arith, there _ _ _ _ _ _ _ is.width is.comes, some_words c.args.leaf, is.width, c.told-words)

pub bounds-words-place : goal.bounds-words-place
bounds-words-place c =
    let is = c.loop-place.invariant in
    omega (arith, there _ _ _ _ _ _ _ is.width is.comes, some_words c.args.leaf, is.width, c.told-words)

pub offset_bounds-words-place-in-loop-place : goal.offset_bounds-words-place-in-loop-place
offset_bounds-words-place-in-loop-place c =
    let is = c.loop-place.invariant in
    omega (arith, there _ _ _ _ _ _ _ is.width is.comes, some_words c.args.leaf, is.width, c.told-words)

pub bounds-words-place-in-loop-place : goal.bounds-words-place-in-loop-place
bounds-words-place-in-loop-place c =
    let is = c.loop-place.invariant in
    omega (arith, there _ _ _ _ _ _ _ is.width is.comes, some_words c.args.leaf, is.width, c.told-words)

pub overflow_add-place : goal.overflow_add-place
overflow_add-place c =
    let is = c.loop-place.invariant in
    omega (arith, there _ _ _ _ _ _ _ is.width is.comes, c.told-words)

pub loop-place-smaller : goal.loop-place-smaller
loop-place-smaller c =
    let is = c.loop-place.invariant in
    omega (arith, there _ _ _ _ _ _ _ is.width is.comes, some_words c.args.leaf, is.width, c.told-words)

pub loop-place-preserved : goal.loop-place-preserved
loop-place-preserved c =
    let is = c.loop-place.invariant in
    record { width = is.width; comes = comes_next c.args.leaf c.args.start c.args.page c.loop-place.start c.loop-place.place _ c.args.words.now is.width is.comes c.loop-place-test.true }

pub listed_at-requires : goal.listed_at-requires
listed_at-requires c =
    let is = c.loop-place.invariant in
    omega (arith, there _ _ _ _ _ _ _ is.width is.comes, is.width, c.told-words)

pub returns-clause-item : goal.returns-clause-item
returns-clause-item c =
    (found _ _ _ _ _ _ c.loop-place.invariant.comes (omega (arith, c.loop-place-test.false))).found ∙ ap (λ (item : NodeItem). Some item) (sym c.listed_at.ensures)

pub returns-clause-start : goal.returns-clause-start
returns-clause-start c = (found _ _ _ _ _ _ c.loop-place.invariant.comes (omega (arith, c.loop-place-test.false))).front
