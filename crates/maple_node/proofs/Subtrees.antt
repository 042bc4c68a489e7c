-- For the law `levels_are_subtrees`: a tree by levels and from the root down.
use Rattle.std.proofs.Common.{ℕ, zero, suc, ◌≡◌, ◌+◌, List, [], ◌∷◌, ◌++◌, append-nil, map, refl, ap, sym, subst, ◌∙◌, arith}
use Rattle.std.specs.Prelude.{◌↔◌}
use Rattle.std.specs.List.{flat_map}
use Rattle.std.proofs.lemmas.Grind.{flat_map-append}
use Rattle.maple_node.specs.declared.item.NodeItem.{NodeItem}
use Rattle.maple_node.specs.Nodes.{items_end}
use Rattle.maple_node.specs.Levels.{is_leaf, items_at, below, AllFrom, IsNode, level_of, IsTower, rows_below, times_among}
use Rattle.maple_node.specs.Trees.{Tree, entries_of, tree_rows}
use Rattle.maple_node.specs.Subtrees.{IsSubtree, subtree_entries, subtree_rows}
use Rattle.maple_node.proofs.Frames.{times-append}

-- what holds of joined items holds of both parts, and the other way round
all_join : (P : ℕ → NodeItem → Type 0) (start : ℕ) (xs ys : List NodeItem) → AllFrom P start xs → AllFrom P (items_end start xs) ys → AllFrom P start (xs ++ ys)
all_join P start [] ys left right = right
all_join P start (x ∷ xs) ys left right = (left.0, all_join P x.end xs ys left.1 right)

all_left : (P : ℕ → NodeItem → Type 0) (start : ℕ) (xs ys : List NodeItem) → AllFrom P start (xs ++ ys) → AllFrom P start xs
all_left P start [] ys all = tt
all_left P start (x ∷ xs) ys all = (all.0, all_left P x.end xs ys all.1)

all_right : (P : ℕ → NodeItem → Type 0) (start : ℕ) (xs ys : List NodeItem) → AllFrom P start (xs ++ ys) → AllFrom P (items_end start xs) ys
all_right P start [] ys all = all
all_right P start (x ∷ xs) ys all = all_right P x.end xs ys all.1

-- nodes whose items have subtrees have subtrees one higher, and the other way round
raised : (at : ℕ → List ℕ) (limit height start : ℕ) (items : List NodeItem) → AllFrom (IsNode at (is_leaf height) limit) start items
    → AllFrom (IsSubtree at limit height) start (below at (is_leaf height) items) → AllFrom (IsSubtree at limit (suc height)) start items
unfolding IsSubtree
raised at limit height start [] nodes lower = tt
raised at limit height start (item ∷ items) nodes lower =
    let P : ℕ → NodeItem → Type 0 = IsSubtree at limit height in
    let here = items_at at (is_leaf height) item.word in
    let rest = below at (is_leaf height) items in (
      (nodes.0, all_left P start here rest lower),
      raised at limit height item.end items nodes.1
          (subst (λ (page : ℕ). AllFrom P page rest) nodes.0.until (all_right P start here rest lower)),
    )

lowered : (at : ℕ → List ℕ) (limit height start : ℕ) (items : List NodeItem) → AllFrom (IsSubtree at limit (suc height)) start items
    → AllFrom (IsNode at (is_leaf height) limit) start items × AllFrom (IsSubtree at limit height) start (below at (is_leaf height) items)
unfolding IsSubtree
lowered at limit height start [] trees = (tt, tt)
lowered at limit height start (item ∷ items) trees =
    let P : ℕ → NodeItem → Type 0 = IsSubtree at limit height in
    let here = items_at at (is_leaf height) item.word in
    let rest = below at (is_leaf height) items in
    let others = lowered at limit height item.end items trees.1 in (
      (trees.0.0, others.0),
      all_join P start here rest trees.0.1 (subst (λ (page : ℕ). AllFrom P page rest) (sym trees.0.0.until) others.1),
    )

-- each entry is a subtree
each_entry : (at : ℕ → List ℕ) (limit start : ℕ) (items : List NodeItem) → AllFrom (IsSubtree at limit zero) start items
unfolding IsSubtree
each_entry at limit start [] = tt
each_entry at limit start (item ∷ items) = (tt, each_entry at limit item.end items)

-- a level and those below it
Levelled : (ℕ → List ℕ) → ℕ → ℕ → List NodeItem → ℕ → Type 0
Levelled at limit height items level = AllFrom (IsNode at (is_leaf level) limit) 0 items × IsTower at limit 0 height (below at (is_leaf level) items)

-- a tower stands on subtrees, and subtrees are a tower
trees_of : (at : ℕ → List ℕ) (limit height : ℕ) (items : List NodeItem) → IsTower at limit 0 height items → AllFrom (IsSubtree at limit height) 0 items
unfolding IsTower Levelled
trees_of at limit zero items tower = each_entry at limit 0 items
trees_of at limit (suc height) items tower =
    let e : 0 + height ≡ height = omega arith in
    let levels : Levelled at limit height items height = subst (Levelled at limit height items) e tower in
    raised at limit height 0 items levels.0 (trees_of at limit height (below at (is_leaf height) items) levels.1)

tower_of : (at : ℕ → List ℕ) (limit height : ℕ) (items : List NodeItem) → AllFrom (IsSubtree at limit height) 0 items → IsTower at limit 0 height items
unfolding IsTower Levelled
tower_of at limit zero items trees = tt
tower_of at limit (suc height) items trees =
    let e : height ≡ 0 + height = omega arith in
    let lower = lowered at limit height 0 items trees in
    subst (Levelled at limit height items) e (lower.0, tower_of at limit height (below at (is_leaf height) items) lower.1)

pub tower-subtree : (at : ℕ → List ℕ) (limit height : ℕ) (top : NodeItem) → IsTower at limit 0 height (top ∷ []) ↔ IsSubtree at limit height 0 top
tower-subtree at limit height top =
    (λ tower. (trees_of at limit height (top ∷ []) tower).0, λ tree. tower_of at limit height (top ∷ []) (tree, tt))

-- lists made of lists that are made of lists
flat_twice : {A : Type 0} (f : NodeItem → List A) (g : NodeItem → List NodeItem) (xs : List NodeItem)
    → flat_map f (flat_map g xs) ≡ flat_map (λ x. flat_map f (g x)) xs
flat_twice f g [] = refl
flat_twice f g (x ∷ xs) = flat_map-append f (g x) (flat_map g xs) ∙ ap (λ l. flat_map f (g x) ++ l) (flat_twice f g xs)

flat_ones : (at : ℕ → List ℕ) (xs : List NodeItem) → xs ≡ flat_map (subtree_entries at zero) xs
unfolding subtree_entries
flat_ones at [] = refl
flat_ones at (x ∷ xs) = ap (λ l. x ∷ l) (flat_ones at xs)

flat_none : (at : ℕ → List ℕ) (row : ℕ) (xs : List NodeItem) → times_among row (flat_map (subtree_rows at zero) xs) ≡ 0
unfolding subtree_rows
flat_none at row [] = refl
flat_none at row (x ∷ xs) = flat_none at row xs

-- the entries
entries_flat : (at : ℕ → List ℕ) (height : ℕ) (items : List NodeItem) → level_of at 0 height items ≡ flat_map (subtree_entries at height) items
unfolding level_of subtree_entries
entries_flat at zero items = flat_ones at items
entries_flat at (suc height) items =
    let e : 0 + height ≡ height = omega arith in
    ap (λ (n : ℕ). level_of at 0 height (below at (is_leaf n) items)) e
    ∙ entries_flat at height (below at (is_leaf height) items)
    ∙ flat_twice (subtree_entries at height) (λ item. items_at at (is_leaf height) item.word) items

pub entries-subtree : (at : ℕ → List ℕ) (tree : Tree) → entries_of at tree ≡ subtree_entries at tree.height tree.top
entries-subtree at tree = entries_flat at tree.height (tree.top ∷ []) ∙ append-nil (subtree_entries at tree.height tree.top)

-- the rows, those of the nodes before those below them
heads_first : (row : ℕ) (f : NodeItem → List ℕ) (g : NodeItem → List NodeItem) (xs : List NodeItem)
    → times_among row (flat_map (λ x. x.word ∷ flat_map f (g x)) xs) ≡ times_among row (map (λ x. x.word) xs) + times_among row (flat_map f (flat_map g xs))
heads_first row f g [] = omega arith
heads_first row f g (x ∷ xs) = omega (
  arith,
  times-append row (flat_map f (g x)) (flat_map (λ y. y.word ∷ flat_map f (g y)) xs),
  ap (times_among row) (flat_map-append f (g x) (flat_map g xs)),
  times-append row (flat_map f (g x)) (flat_map f (flat_map g xs)),
  heads_first row f g xs,
)

rows_flat : (at : ℕ → List ℕ) (height row : ℕ) (items : List NodeItem) → times_among row (rows_below at 0 height items) ≡ times_among row (flat_map (subtree_rows at height) items)
unfolding rows_below subtree_rows
rows_flat at zero row items = sym (flat_none at row items)
rows_flat at (suc height) row items =
    let e : 0 + height ≡ height = omega arith in
    let deep : ℕ → List ℕ = λ n. rows_below at 0 height (below at (is_leaf n) items) in
    omega (
      arith,
      times-append row (map (λ (item : NodeItem). item.word) items) (deep (0 + height)),
      ap (λ (n : ℕ). times_among row (deep n)) e,
      rows_flat at height row (below at (is_leaf height) items),
      heads_first row (subtree_rows at height) (λ item. items_at at (is_leaf height) item.word) items,
    )

pub rows-subtree : (at : ℕ → List ℕ) (tree : Tree) (row : ℕ) → times_among row (tree_rows at tree) ≡ times_among row (subtree_rows at tree.height tree.top)
rows-subtree at tree row = rows_flat at tree.height row (tree.top ∷ []) ∙ ap (times_among row) (append-nil (subtree_rows at tree.height tree.top))
