-- For the law `sizes_of_trees`: how many rows a tree has for its entries, and how many entries for its height.
use Rattle.std.proofs.Common.{ℕ, zero, suc, ◌≡◌, ◌<◌, ◌≤◌, ◌+◌, ◌-◌, ◌*◌, ◌^◌, Bool, true, false, nat_eq, List, [], ◌∷◌, length, sym, ap, subst, arith, length-append}
use Rattle.std.proofs.lemmas.Bool.Decides.{nat_tests}
use Rattle.std.proofs.lemmas.List.{length-map}
use Rattle.maple_node.specs.declared.item.NodeItem.{NodeItem}
use Rattle.maple_node.specs.Nodes.{least_items, items_end}
use Rattle.maple_node.specs.Levels.{is_leaf, items_at, below, level_of, IsTower, rows_below}
use Rattle.maple_node.specs.Trees.{Tree, entries_of, tree_rows, IsLayout}
use Rattle.maple_node.proofs.Lists.{ends_behind}
use Rattle.maple_node.proofs.Levels.{nodes-ascend, end_of-below}
use Rattle.maple_write.specs.Internal.Tables.{rows_in}
use Rattle.maple_write.proofs.Levels.{AreNodes}

-- a node more that has at least as many items as a node has
one_more : (leaf : Bool) (count items more : ℕ) → least_items leaf * count + 1 ≤ items + least_items leaf → least_items leaf ≤ more
    → least_items leaf * (count + 1) + 1 ≤ more + items + least_items leaf
one_more true count items more rest enough = omega arith
one_more false count items more rest enough = omega arith

one_alone : (leaf : Bool) (items : ℕ) → 1 ≤ items → least_items leaf * 1 + 1 ≤ items + least_items leaf
one_alone true items some = omega arith
one_alone false items some = omega arith

-- all nodes but the last have at least as many items as a node has
pub full_below : (at : ℕ → List ℕ) (leaf : Bool) (limit start : ℕ) (items : List NodeItem) → AreNodes at leaf limit start items
    → items_end start items ≤ limit → 1 ≤ length items → least_items leaf * length items + 1 ≤ length (below at leaf items) + least_items leaf
full_below at leaf limit start [] nodes ends some = absurd (omega arith)
full_below at leaf limit start (x ∷ []) nodes ends some =
    let long = length-append (items_at at leaf x.word) [] in
    let more = nodes.0.some in
    let alone = one_alone leaf (length (items_at at leaf x.word)) more in
    let e : length (x ∷ []) ≡ 1 = omega arith in
    let b : length (below at leaf (x ∷ [])) ≡ length (items_at at leaf x.word) = omega arith in
    subst (λ (n : ℕ). least_items leaf * n + 1 ≤ length (below at leaf (x ∷ [])) + least_items leaf) (sym e)
    (subst (λ (n : ℕ). least_items leaf * 1 + 1 ≤ n + least_items leaf) (sym b) alone)
full_below at leaf limit start (x ∷ y ∷ ys) nodes ends some =
    let rest = full_below at leaf limit x.end (y ∷ ys) nodes.1 ends (omega arith) in
    let past = ends_behind x.end (y ∷ ys) (nodes-ascend at leaf limit x.end (y ∷ ys) nodes.1) (omega arith) in
    let enough = nodes.0.least (omega arith) in
    let long = length-append (items_at at leaf x.word) (below at leaf (y ∷ ys)) in
    let more = one_more leaf (length (y ∷ ys)) (length (below at leaf (y ∷ ys))) (length (items_at at leaf x.word)) rest enough in
    let e : length (x ∷ y ∷ ys) ≡ length (y ∷ ys) + 1 = omega arith in
    let b : length (below at leaf (x ∷ y ∷ ys)) ≡ length (items_at at leaf x.word) + length (below at leaf (y ∷ ys)) = omega arith in
    subst (λ (n : ℕ). least_items leaf * n + 1 ≤ length (below at leaf (x ∷ y ∷ ys)) + least_items leaf) (sym e)
    (subst (λ (n : ℕ). least_items leaf * (length (y ∷ ys) + 1) + 1 ≤ n + least_items leaf) (sym b) more)

inner_test : (up : ℕ) → is_leaf (0 + suc up) ≡ false
inner_test up = let test : nat_eq (0 + suc up) 0 ≡ false = grind (arith, nat_tests) in test

-- how many rows there are for the entries
pub few_rows : (at : ℕ → List ℕ) (limit up : ℕ) (items : List NodeItem) → IsTower at limit 0 (suc up) items → items_end 0 items ≤ limit → 1 ≤ length items
    → 9 * length (rows_below at 0 (suc up) items) + 3 * length items ≤ 2 * length (level_of at 0 (suc up) items) + 1 + 9 * suc up
unfolding IsTower rows_below level_of
few_rows at limit zero items tower ends some =
    let full = full_below at true limit 0 items tower.0 ends some in
    let long = length-append (rows_in items) [] in
    let rows = length-map items (λ (item : NodeItem). item.word) in
    omega arith
few_rows at limit (suc up) items tower ends some =
    let inner = inner_test up in
    let leaf = is_leaf (0 + suc up) in
    let deep = below at leaf items in
    let full = full_below at leaf limit 0 items tower.0 ends some in
    let full' : 4 * length items + 1 ≤ length deep + 4 = subst (λ b. least_items b * length items + 1 ≤ length deep + least_items b) inner full in
    let until = end_of-below at leaf limit 0 items tower.0 in
    let rest = few_rows at limit up deep tower.1 (omega arith) (omega arith) in
    let long = length-append (rows_in items) (rows_below at 0 (suc up) deep) in
    let rows = length-map items (λ (item : NodeItem). item.word) in
    omega arith

-- how many entries there are for the height
four_more : (up m : ℕ) → 4 ^ suc up * m ≡ 4 ^ up * (4 * m)
four_more up m = let e : 4 ^ suc up ≡ 4 * 4 ^ up = grind arith in rw e (grind arith)

pub many_entries : (at : ℕ → List ℕ) (limit up m : ℕ) (items : List NodeItem) → IsTower at limit 0 (suc up) items → items_end 0 items ≤ limit
    → m + 1 ≤ length items → 6 * (4 ^ up * m) + 1 ≤ length (level_of at 0 (suc up) items)
unfolding IsTower level_of
many_entries at limit zero m items tower ends some =
    let full = full_below at true limit 0 items tower.0 ends (omega arith) in
    let one : 4 ^ 0 * m ≡ m = omega arith in
    omega arith
many_entries at limit (suc up) m items tower ends some =
    let inner = inner_test up in
    let leaf = is_leaf (0 + suc up) in
    let deep = below at leaf items in
    let full = full_below at leaf limit 0 items tower.0 ends (omega arith) in
    let full' : 4 * length items + 1 ≤ length deep + 4 = subst (λ b. least_items b * length items + 1 ≤ length deep + least_items b) inner full in
    let until = end_of-below at leaf limit 0 items tower.0 in
    let rest = many_entries at limit up (4 * m) deep tower.1 (omega arith) (omega arith) in
    let same = four_more up m in
    omega arith

-- the sizes of a tree
pub tree_sizes : (at : ℕ → List ℕ) (slots : ℕ) (tree : Tree) → IsLayout at slots tree
    → 9 * length (tree_rows at tree) + 2 ≤ 2 * length (entries_of at tree) + 9 * tree.height
tree_sizes at slots tree layout =
    let tall = layout.tall in
    let e : tree.height ≡ suc (tree.height - 1) = omega arith in
    let top = tree.top in
    let tower : IsTower at top.end 0 (suc (tree.height - 1)) (top ∷ []) = subst (λ (n : ℕ). IsTower at top.end 0 n (top ∷ [])) e layout.tower in
    let few = few_rows at top.end (tree.height - 1) (top ∷ []) tower (omega arith) (omega arith) in
    let a = ap (λ (n : ℕ). length (rows_below at 0 n (top ∷ []))) e in
    let b = ap (λ (n : ℕ). length (level_of at 0 n (top ∷ []))) e in
    omega arith

pub tall_trees : (at : ℕ → List ℕ) (slots : ℕ) (tree : Tree) → IsLayout at slots tree → 2 ≤ tree.height
    → 6 * 4 ^ (tree.height - 2) < length (entries_of at tree)
unfolding IsTower level_of
tall_trees at slots tree layout high =
    let up = tree.height - 2 in
    let top = tree.top in
    let e : tree.height ≡ suc (suc up) = omega arith in
    let tower : IsTower at top.end 0 (suc (suc up)) (top ∷ []) = subst (λ (n : ℕ). IsTower at top.end 0 n (top ∷ [])) e layout.tower in
    let leaf = is_leaf (0 + suc up) in
    let inner = inner_test up in
    let deep = below at leaf (top ∷ []) in
    let wide = layout.wide high in
    let wide' : 2 ≤ length (items_at at leaf top.word) = subst (λ b. 2 ≤ length (items_at at b top.word)) (sym inner) wide in
    let long = length-append (items_at at leaf top.word) [] in
    let until = end_of-below at leaf top.end 0 (top ∷ []) tower.0 in
    let many = many_entries at top.end up 1 deep tower.1 (omega arith) (omega arith) in
    let b = ap (λ (n : ℕ). length (level_of at 0 n (top ∷ []))) e in
    let one : 4 ^ up * 1 ≡ 4 ^ up = omega arith in
    omega arith
