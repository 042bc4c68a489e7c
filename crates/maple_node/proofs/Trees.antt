-- For all laws of trees: the layout, level by level.
use Rattle.std.proofs.Common.{ℕ, zero, suc, ◌≡◌, ◌<◌, ◌≤◌, ◌+◌, ◌-◌, true, false, List, [], ◌∷◌, ◌++◌, length, All, replicate, refl, ap, sym, subst, ◌∙◌, arith, inl, inr, if◌then◌else◌, nat_eq}
use Rattle.std.proofs.lemmas.Bool.{cases_lt}
use Rattle.std.specs.Prelude.{IsSome, ◌↔◌}
use Rattle.maple_node.specs.declared.item.NodeItem.{NodeItem}
use Rattle.maple_node.specs.declared.root.Root.{Root}
use Rattle.maple_node.specs.Nodes.{node_items, leaf_items, items_end, Ascends, gap_of}
use Rattle.maple_node.specs.Levels.{is_leaf, items_at, level_of, IsTower, rows_below, times_among, Agree, item_at, IsNode}
use Rattle.maple_node.specs.Trees.{Tree, top_of, tree_of, entries_of, tree_rows, pairs_from, pairs_of, ApartFrom, IsLayout, IsFirst, IsTree}
use Rattle.maple_node.proofs.Lists.{item_at-some}
use Rattle.maple_node.proofs.Levels.{level-ascends, level-ends, node_past}
use Rattle.maple_node.proofs.Frames.{times-first, Agree-sym, rows_of-agree, level_of-agree, tower-agree}

-- the root is among the rows
root_there : (at : ℕ → List ℕ) (height : ℕ) (top : NodeItem) → 1 ≤ height → 1 ≤ times_among top.word (rows_below at 0 height (top ∷ []))
unfolding rows_below
root_there at zero top tall = absurd (omega arith)
root_there at (suc height) top tall = times-first top.word (rows_below at 0 height (items_at at (is_leaf (0 + height)) top.word ++ []))

-- the same tree in a table that agrees on its rows
layout-agree : (at other : ℕ → List ℕ) (slots : ℕ) (tree : Tree) → Agree at other (tree_rows at tree)
    → IsLayout at slots tree → IsLayout other slots tree
layout-agree at other slots tree agree layout =
    let entries = level_of-agree at other 0 tree.height (tree.top ∷ []) agree in
    let same = rows_of-agree at other 0 tree.height (tree.top ∷ []) agree in
    let root : at tree.top.word ≡ other tree.top.word = agree tree.top.word (root_there at tree.height tree.top layout.tall) in
    record {
      tall = layout.tall;
      tower = tower-agree at other tree.top.end 0 tree.height (tree.top ∷ []) agree layout.tower;
      wide = λ inner. subst (λ (words : List ℕ). 2 ≤ length (node_items false words)) root (layout.wide inner);
      apart = subst (λ (xs : List NodeItem). ApartFrom 1 xs) entries layout.apart;
      numbered = subst (λ (xs : List NodeItem). All (λ (entry : NodeItem). entry.word ≤ slots) xs) entries layout.numbered;
      once = λ row. subst (λ (xs : List ℕ). times_among row xs ≤ 1) same (layout.once row);
    }

pub layout-same : (at other : ℕ → List ℕ) (slots : ℕ) (tree : Tree) → Agree at other (tree_rows at tree)
    → IsLayout at slots tree ↔ IsLayout other slots tree
layout-same at other slots tree agree =
    let same = rows_of-agree at other 0 tree.height (tree.top ∷ []) agree in (
      layout-agree at other slots tree agree,
      layout-agree other at slots tree (Agree-sym at other (tree_rows at tree) (tree_rows other tree) same agree),
    )

-- the same pairs
pub pairs-same : (at other : ℕ → List ℕ) (tree : Tree) → Agree at other (tree_rows at tree) → pairs_of at tree ≡ pairs_of other tree
pairs-same at other tree agree = ap (λ (xs : List NodeItem). pairs_from 0 xs) (level_of-agree at other 0 tree.height (tree.top ∷ []) agree)

-- the row of the root names the same tree
tree_of-same : (at other : ℕ → List ℕ) (root : Root) → at root.row.0 ≡ other root.row.0 → tree_of at root ≡ tree_of other root
tree_of-same at other root same = let leaf = is_leaf (root.height - 1) in
    ap (λ (words : List ℕ). let tree : Tree = record {
      top = record { end = items_end 0 (node_items leaf words); word = root.row.0; gap = gap_of leaf 0 (node_items leaf words) };
      height = root.height;
    } in tree) same

-- the first root, whose tree has no entries
first : Root
first = record { tree = 0; height = 1; row = record { 0 = 0 } }

-- its rows, in any table
first_rows : (at : ℕ → List ℕ) → tree_rows at (tree_of at first) ≡ 0 ∷ []
unfolding rows_below first
first_rows at = refl

first_entries : (at : ℕ → List ℕ) → at 0 ≡ replicate 32 0 → entries_of at (tree_of at first) ≡ []
unfolding level_of first leaf_items
first_entries at zeros = ap (λ (words : List ℕ). leaf_items words ++ []) zeros

pub first-rows : (at : ℕ → List ℕ) (root : Root) → IsFirst at root → tree_rows at (tree_of at root) ≡ 0 ∷ []
unfolding first
first-rows at root is = subst (λ (r : Root). tree_rows at (tree_of at r) ≡ 0 ∷ []) (sym is.named) (first_rows at)

pub first-entries : (at : ℕ → List ℕ) (root : Root) → IsFirst at root → entries_of at (tree_of at root) ≡ []
unfolding first
first-entries at root is = subst (λ (r : Root). entries_of at (tree_of at r) ≡ []) (sym is.named) (first_entries at is.words)

pub first-pairs : (at : ℕ → List ℕ) (root : Root) → IsFirst at root → pairs_of at (tree_of at root) ≡ []
first-pairs at root is = ap (λ (xs : List NodeItem). pairs_from 0 xs) (first-entries at root is)

-- what a root shows in a table, in another that agrees on its rows
tree-agree : (at other : ℕ → List ℕ) (slots : ℕ) (root : Root) → Agree at other (tree_rows at (tree_of at root))
    → IsTree at slots root → IsTree other slots root
tree-agree at other slots root agree tree = record {
  first = λ zeroth.
      let is = tree.first zeroth in
      let there : 1 ≤ times_among 0 (tree_rows at (tree_of at root)) =
      subst (λ (xs : List ℕ). 1 ≤ times_among 0 xs) (sym (first-rows at root is)) (times-first 0 []) in
      record { named = is.named; words = sym (agree 0 there) ∙ is.words };
  later = λ some.
      let layout = tree.later some in
      let here : at root.row.0 ≡ other root.row.0 = agree root.row.0 (root_there at root.height (top_of at root.height root.row.0) layout.tall) in
      subst (λ (t : Tree). IsLayout other slots t) (tree_of-same at other root here)
      (layout-agree at other slots (tree_of at root) agree layout);
}

-- the rows depend on the row of the root
rows_of-top : (at : ℕ → List ℕ) (height : ℕ) (x y : NodeItem) → x.word ≡ y.word → rows_below at 0 height (x ∷ []) ≡ rows_below at 0 height (y ∷ [])
unfolding rows_below
rows_of-top at zero x y same = refl
rows_of-top at (suc height) x y same =
    let leaf = is_leaf (0 + height) in
    ap (λ (row : ℕ). row ∷ rows_below at 0 height (items_at at leaf row ++ [])) same

pub tree-same : (at other : ℕ → List ℕ) (slots : ℕ) (root : Root) → Agree at other (tree_rows at (tree_of at root))
    → IsTree at slots root ↔ IsTree other slots root
tree-same at other slots root agree =
    let one = top_of at root.height root.row.0 in
    let two = top_of other root.height root.row.0 in
    let same = rows_of-agree at other 0 root.height (one ∷ []) agree ∙ rows_of-top other root.height one two refl in (
      tree-agree at other slots root agree,
      tree-agree other at slots root (Agree-sym at other (tree_rows at (tree_of at root)) (tree_rows other (tree_of other root)) same agree),
    )

-- the root is a node from page 0 up to the limit
top_node : (at : ℕ → List ℕ) (limit height : ℕ) (top : NodeItem) → 1 ≤ height → IsTower at limit 0 height (top ∷ [])
    → IsNode at (is_leaf (height - 1)) limit 0 top
unfolding IsTower
top_node at limit zero top tall tower = absurd (omega arith)
top_node at limit (suc height) top tall tower =
    let level : 0 + height ≡ suc height - 1 = omega arith in
    subst (λ (n : ℕ). IsNode at (is_leaf n) limit 0 top) level tower.0.0

-- it stands in the rows once
pub root-once : (at : ℕ → List ℕ) (slots : ℕ) (tree : Tree) → IsLayout at slots tree
    → times_among tree.top.word (tree_rows at tree) ≡ 1
root-once at slots tree layout =
    let there = root_there at tree.height tree.top layout.tall in
    let once = layout.once tree.top.word in
    omega arith

-- and it names the tree
pub root-named : (at : ℕ → List ℕ) (slots : ℕ) (tree : Tree) → IsLayout at slots tree
    → tree.top ≡ top_of at tree.height tree.top.word
root-named at slots tree layout =
    let top = tree.top in
    let node = top_node at top.end tree.height top layout.tall layout.tower in
    let told : ℕ → ℕ → NodeItem = λ end gap. record { end = end; word = top.word; gap = gap } in
    ap (λ (end : ℕ). told end top.gap) (sym node.until)
    ∙ ap (λ (gap : ℕ). told (items_end 0 (items_at at (is_leaf (tree.height - 1)) top.word)) gap) (sym node.gap)

-- a tree has pages
pub limit_above : (at : ℕ → List ℕ) (slots : ℕ) (tree : Tree) → IsLayout at slots tree → 0 < tree.top.end
limit_above at slots tree layout =
    node_past at (is_leaf (tree.height - 1)) tree.top.end 0 tree.top (top_node at tree.top.end tree.height tree.top layout.tall layout.tower)

-- its entries ascend from page 0
pub entries-ascend : (at : ℕ → List ℕ) (slots : ℕ) (tree : Tree) → IsLayout at slots tree → Ascends 0 (entries_of at tree)
entries-ascend at slots tree layout =
    level-ascends at tree.top.end 0 tree.height (tree.top ∷ []) (limit_above at slots tree layout, tt) layout.tower

-- the last ends at the limit
pub entries-end : (at : ℕ → List ℕ) (slots : ℕ) (tree : Tree) → IsLayout at slots tree
    → items_end 0 (entries_of at tree) ≡ tree.top.end
entries-end at slots tree layout = level-ends at tree.top.end 0 tree.height (tree.top ∷ []) layout.tower

-- each page below it is in one
pub entry_there : (at : ℕ → List ℕ) (slots : ℕ) (tree : Tree) (page : ℕ) → IsLayout at slots tree → page < tree.top.end
    → IsSome (item_at page (entries_of at tree))
entry_there at slots tree page layout within =
    let end = entries-end at slots tree layout in
    item_at-some page 0 (entries_of at tree) (omega arith) (omega arith)

single_once : (row other : ℕ) → times_among row (other ∷ []) ≤ 1
single_once row other = elim (nat_eq other row) as (λ b. (if b then 1 else 0) + 0 ≤ 1) [ true ↦ omega arith | false ↦ omega arith ]

-- no row of a tree is reached twice
pub rows-once : (at : ℕ → List ℕ) (slots : ℕ) (root : Root) (row : ℕ) → IsTree at slots root → times_among row (tree_rows at (tree_of at root)) ≤ 1
rows-once at slots root row tree = elim (cases_lt 0 root.tree) as (λ _. times_among row (tree_rows at (tree_of at root)) ≤ 1) [
  | inl some ↦ (tree.later some).once row
  | inr none ↦ subst (λ (xs : List ℕ). times_among row xs ≤ 1) (sym (first-rows at root (tree.first (omega arith)))) (single_once row 0)
]

-- a root of a later number, with the tree's row and height, shows it
pub root-shown : (at : ℕ → List ℕ) (slots : ℕ) (tree : Tree) (root : Root) → IsLayout at slots tree
    → 1 ≤ root.tree → root.height ≡ tree.height → root.row.0 ≡ tree.top.word → IsTree at slots root
root-shown at slots tree root layout later tall here =
    let made : NodeItem → ℕ → Tree = λ top height. record { top = top; height = height } in
    let top : tree.top ≡ top_of at root.height root.row.0 =
    root-named at slots tree layout ∙ ap (λ (n : ℕ). top_of at n tree.top.word) (sym tall)
    ∙ ap (λ (n : ℕ). top_of at root.height n) (sym here) in
    let same : tree ≡ tree_of at root = ap (λ (item : NodeItem). made item tree.height) top
    ∙ ap (λ (n : ℕ). made (top_of at root.height root.row.0) n) (sym tall) in
    record {
      first = λ zeroth. absurd (omega arith);
      later = λ some. subst (λ (t : Tree). IsLayout at slots t) same layout;
    }
