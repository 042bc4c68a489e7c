-- For `put`, `pack`, `rebuild_level` and others: how often a row stands among others, and what stays when other rows are written.
use Rattle.std.proofs.Common.{ℕ, zero, suc, ◌≡◌, ◌≢◌, ◌<◌, ◌≤◌, ◌+◌, Bool, true, nat_eq, List, [], ◌∷◌, ◌++◌, length, set, refl, sym, ap, subst, ◌∙◌, arith}
use Rattle.std.proofs.lemmas.Bool.Decides.{nat_tests}
use Rattle.std.proofs.lemmas.List.{map-append, get_or-set_other, get_or-set_same}
use Rattle.std.proofs.lemmas.Grind.{flat_map-append}
use Rattle.maple_node.specs.declared.item.NodeItem.{NodeItem}
use Rattle.maple_node.specs.Nodes.{node_items, words_of_items, most, least_items, items_end, Ascends, gap_of}
use Rattle.maple_node.specs.Levels.{is_leaf, at_of, items_at, below, IsNode, level_of, IsTower, rows_below, times_among, Agree}
use Rattle.maple_node.proofs.Frames.{times-append, times-first, below-agree, rows_of-agree, level_of-agree, tower-agree}
use Rattle.maple_node.proofs.ItemLists.{AllFrom-append}
use Rattle.maple_write.specs.Internal.Tables.{rows_in}
use Rattle.maple_write.proofs.Levels.{AreNodes}

-- how often a row is among those of joined items
pub times-rows_in : (row : ℕ) (xs ys : List NodeItem) → times_among row (rows_in (xs ++ ys)) ≡ times_among row (rows_in xs) + times_among row (rows_in ys)
times-rows_in row xs ys = ap (times_among row) (map-append (λ (item : NodeItem). item.word) xs ys) ∙ times-append row (rows_in xs) (rows_in ys)

-- a row that is listed first
pub times_same : (row : ℕ) (rows : List ℕ) → times_among row (row ∷ rows) ≡ 1 + times_among row rows
times_same row rows = let same : nat_eq row row ≡ true = grind (arith, nat_tests) in rw same refl

-- a row that is not among others is none of them
pub apart : (a b : ℕ) (rows : List ℕ) → times_among a rows ≡ 0 → 1 ≤ times_among b rows → a ≢ b
apart a b rows none some same = let moved : times_among b rows ≡ 0 = subst (λ (row : ℕ). times_among row rows ≡ 0) same none in omega arith

-- the words of another row stay
pub kept_other : (rows : List (List ℕ)) (row other : ℕ) (words : List ℕ) → other ≢ row → at_of (set rows row words) other ≡ at_of rows other
kept_other rows row other words differ = get_or-set_other rows row other words [] differ

pub written_row : (rows : List (List ℕ)) (row : ℕ) (words : List ℕ) → row < length rows → at_of (set rows row words) row ≡ words
written_row rows row words within = get_or-set_same rows row words [] within

-- a row that keeps its words is still a node
pub kept-node : (at after : ℕ → List ℕ) (leaf : Bool) (limit start : ℕ) (item : NodeItem) → at item.word ≡ after item.word
    → IsNode at leaf limit start item → IsNode after leaf limit start item
kept-node at after leaf limit start item same node = record {
  some = subst (λ (words : List ℕ). 1 ≤ length (node_items leaf words)) same node.some;
  most = subst (λ (words : List ℕ). length (node_items leaf words) ≤ most leaf) same node.most;
  least = λ inner. subst (λ (words : List ℕ). least_items leaf ≤ length (node_items leaf words)) same (node.least inner);
  ascends = subst (λ (words : List ℕ). Ascends start (node_items leaf words)) same node.ascends;
  until = subst (λ (words : List ℕ). items_end start (node_items leaf words) ≡ item.end) same node.until;
  gap = subst (λ (words : List ℕ). gap_of leaf start (node_items leaf words) ≡ item.gap) same node.gap;
  words = subst (λ (words : List ℕ). words ≡ words_of_items leaf (node_items leaf words)) same node.words;
}

pub kept-nodes : (at after : ℕ → List ℕ) (leaf : Bool) (limit start : ℕ) (items : List NodeItem) → Agree at after (rows_in items)
    → AreNodes at leaf limit start items → AreNodes after leaf limit start items
kept-nodes at after leaf limit start [] agree nodes = tt
kept-nodes at after leaf limit start (item ∷ items) agree nodes = (
  kept-node at after leaf limit start item (agree item.word (times-first item.word (rows_in items))) nodes.0,
  kept-nodes at after leaf limit item.end items (λ row some. agree row (omega arith)) nodes.1,
)

-- the level below joined nodes, of which the last is new
pub whole_list : (ys : List NodeItem) → ys ++ [] ≡ ys
whole_list [] = refl
whole_list (y ∷ ys) = ap (λ (zs : List NodeItem). y ∷ zs) (whole_list ys)

pub below_pushed : (at after : ℕ → List ℕ) (leaf : Bool) (nodes : List NodeItem) (node : NodeItem) (items : List NodeItem) → Agree at after (rows_in nodes)
    → items_at after leaf node.word ≡ items → below after leaf (nodes ++ node ∷ []) ≡ below at leaf nodes ++ items
below_pushed at after leaf nodes node items agree reads =
    flat_map-append (λ (item : NodeItem). items_at after leaf item.word) nodes (node ∷ [])
    ∙ ap (λ (xs : List NodeItem). xs ++ (items_at after leaf node.word ++ [])) (sym (below-agree at after leaf nodes agree))
    ∙ ap (λ (xs : List NodeItem). below at leaf nodes ++ xs) (whole_list (items_at after leaf node.word) ∙ reads)

-- one node more
pub pushed : (at after : ℕ → List ℕ) (leaf : Bool) (limit start : ℕ) (nodes : List NodeItem) (node : NodeItem) → Agree at after (rows_in nodes)
    → AreNodes at leaf limit start nodes → IsNode after leaf limit (items_end start nodes) node → AreNodes after leaf limit start (nodes ++ node ∷ [])
pushed at after leaf limit start nodes node agree all one =
    AllFrom-append (IsNode after leaf limit) start nodes (node ∷ []) (kept-nodes at after leaf limit start nodes agree all) (one, tt)

-- a tower whose rows keep their words stays
pub record Kept (at after : ℕ → List ℕ) (limit low up : ℕ) (items : List NodeItem) : Type 0 where
  pub tower : IsTower after limit low up items
  pub level : level_of after low up items ≡ level_of at low up items
  pub rows : rows_below after low up items ≡ rows_below at low up items

pub kept-tower : (at after : ℕ → List ℕ) (limit low up : ℕ) (items : List NodeItem) → Agree at after (rows_below at low up items)
    → IsTower at limit low up items → Kept at after limit low up items
kept-tower at after limit low up items agree tower = record {
  tower = tower-agree at after limit low up items agree tower;
  level = sym (level_of-agree at after low up items agree);
  rows = sym (rows_of-agree at after low up items agree);
}

-- the rows of a tower are those above its lowest nodes, and those of these
pub times-lowest : (at : ℕ → List ℕ) (row low up : ℕ) (items : List NodeItem)
    → times_among row (rows_below at low (suc up) items) ≡ times_among row (rows_below at (suc low) up items) + times_among row (rows_in (level_of at (suc low) up items))
unfolding rows_below level_of
times-lowest at row low zero items = times-append row (rows_in items) [] ∙ (let e : times_among row (rows_in items) + 0 ≡ 0 + times_among row (rows_in items) = omega arith in e)
times-lowest at row low (suc up) items =
    let e : low + suc up ≡ suc low + up = omega arith in
    let here = below at (is_leaf (low + suc up)) items in
    let deep = times-lowest at row low up here in
    let joined = times-append row (rows_in items) (rows_below at low (suc up) here) in
    let moved : times_among row (rows_below at (suc low) up here) ≡ times_among row (rows_below at (suc low) up (below at (is_leaf (suc low + up)) items)) =
    ap (λ (n : ℕ). times_among row (rows_below at (suc low) up (below at (is_leaf n) items))) e in
    let moved' : times_among row (rows_in (level_of at (suc low) up here)) ≡ times_among row (rows_in (level_of at (suc low) up (below at (is_leaf (suc low + up)) items))) =
    ap (λ (n : ℕ). times_among row (rows_in (level_of at (suc low) up (below at (is_leaf n) items)))) e in
    let joined' = times-append row (rows_in items) (rows_below at (suc low) up (below at (is_leaf (suc low + up)) items)) in
    omega (arith, deep, joined, moved, moved', joined')
