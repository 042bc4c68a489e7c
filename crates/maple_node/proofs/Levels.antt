-- For all laws of trees: going down the levels of a tree.
use Rattle.std.proofs.Common.{ℕ, zero, suc, ◌≡◌, ◌<◌, ◌+◌, Bool, List, [], ◌∷◌, refl, ap, sym, subst, ◌∙◌}
use Rattle.maple_node.specs.declared.item.NodeItem.{NodeItem}
use Rattle.maple_node.specs.Nodes.{items_end, Ascends}
use Rattle.maple_node.specs.Levels.{is_leaf, items_at, below, AllFrom, IsNode, level_of, IsTower}
use Rattle.maple_node.proofs.Lists.{end_of-append, Ascends-append, ends_behind}

-- a node ends above the page where it begins
pub node_past : (at : ℕ → List ℕ) (leaf : Bool) (limit start : ℕ) (item : NodeItem) → IsNode at leaf limit start item → start < item.end
node_past at leaf limit start item node =
    subst (λ (page : ℕ). start < page) node.until (ends_behind start (items_at at leaf item.word) node.ascends node.some)

-- nodes ascend
pub nodes-ascend : (at : ℕ → List ℕ) (leaf : Bool) (limit start : ℕ) (items : List NodeItem) → AllFrom (IsNode at leaf limit) start items
    → Ascends start items
nodes-ascend at leaf limit start [] nodes = tt
nodes-ascend at leaf limit start (item ∷ items) nodes =
    (node_past at leaf limit start item nodes.0, nodes-ascend at leaf limit item.end items nodes.1)

-- the level below ends where nodes do
pub end_of-below : (at : ℕ → List ℕ) (leaf : Bool) (limit start : ℕ) (items : List NodeItem) → AllFrom (IsNode at leaf limit) start items
    → items_end start (below at leaf items) ≡ items_end start items
end_of-below at leaf limit start [] nodes = refl
end_of-below at leaf limit start (item ∷ items) nodes =
    end_of-append start (items_at at leaf item.word) (below at leaf items)
    ∙ ap (λ (page : ℕ). items_end page (below at leaf items)) nodes.0.until
    ∙ end_of-below at leaf limit item.end items nodes.1

-- the level below ascends
pub below-ascends : (at : ℕ → List ℕ) (leaf : Bool) (limit start : ℕ) (items : List NodeItem) → AllFrom (IsNode at leaf limit) start items
    → Ascends start (below at leaf items)
below-ascends at leaf limit start [] nodes = tt
below-ascends at leaf limit start (item ∷ items) nodes =
    Ascends-append start (items_at at leaf item.word) (below at leaf items) nodes.0.ascends
    (subst (λ (page : ℕ). Ascends page (below at leaf items)) (sym nodes.0.until) (below-ascends at leaf limit item.end items nodes.1))

-- each level of a tower ascends
pub level-ascends : (at : ℕ → List ℕ) (limit low up : ℕ) (items : List NodeItem) → Ascends 0 items → IsTower at limit low up items
    → Ascends 0 (level_of at low up items)
unfolding level_of IsTower
level-ascends at limit low zero items ascends tower = ascends
level-ascends at limit low (suc up) items ascends tower =
    level-ascends at limit low up (below at (is_leaf (low + up)) items) (below-ascends at (is_leaf (low + up)) limit 0 items tower.0) tower.1

-- each level of a tower ends where its top does
pub level-ends : (at : ℕ → List ℕ) (limit low up : ℕ) (items : List NodeItem) → IsTower at limit low up items
    → items_end 0 (level_of at low up items) ≡ items_end 0 items
unfolding level_of IsTower
level-ends at limit low zero items tower = refl
level-ends at limit low (suc up) items tower =
    level-ends at limit low up (below at (is_leaf (low + up)) items) tower.1 ∙ end_of-below at (is_leaf (low + up)) limit 0 items tower.0
