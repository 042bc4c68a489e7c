-- For the law `depends_on_its_rows`: a tree depends only on its own rows.
use Rattle.std.proofs.Common.{ℕ, zero, suc, ◌≡◌, ◌≤◌, ◌+◌, Bool, true, List, [], ◌∷◌, ◌++◌, length, map, refl, ap, sym, subst, ◌∙◌, arith, nat_eq}
use Rattle.std.proofs.lemmas.Bool.Decides.{nat_tests}
use Rattle.maple_node.specs.declared.item.NodeItem.{NodeItem}
use Rattle.maple_node.specs.Nodes.{node_items, words_of_items, most, least_items, items_end, Ascends, gap_of}
use Rattle.maple_node.specs.Levels.{is_leaf, items_at, below, AllFrom, IsNode, level_of, IsTower, rows_below, times_among, Agree}

-- how often a row is among joined rows
pub times-append : (row : ℕ) (xs ys : List ℕ) → times_among row (xs ++ ys) ≡ times_among row xs + times_among row ys
times-append row [] ys = omega arith
times-append row (x ∷ xs) ys = omega (arith, times-append row xs ys)

-- a row is among rows that begin with it
pub times-first : (row : ℕ) (rows : List ℕ) → 1 ≤ times_among row (row ∷ rows)
times-first row rows = let same : nat_eq row row ≡ true = grind (arith, nat_tests) in rw same (omega arith)

-- tables that agree on joined rows agree on each part
pub Agree-left : (at other : ℕ → List ℕ) (xs ys : List ℕ) → Agree at other (xs ++ ys) → Agree at other xs
Agree-left at other xs ys agree = λ row some. agree row (omega (arith, times-append row xs ys))

pub Agree-right : (at other : ℕ → List ℕ) (xs ys : List ℕ) → Agree at other (xs ++ ys) → Agree at other ys
Agree-right at other xs ys agree = λ row some. agree row (omega (arith, times-append row xs ys))

-- they agree the other way round
pub Agree-sym : (at other : ℕ → List ℕ) (rows rows' : List ℕ) → rows ≡ rows' → Agree at other rows → Agree other at rows'
Agree-sym at other rows rows' same agree = λ row some. sym (agree row (subst (λ (xs : List ℕ). 1 ≤ times_among row xs) (sym same) some))

-- the level below is the same
pub below-agree : (at other : ℕ → List ℕ) (leaf : Bool) (items : List NodeItem) → Agree at other (map (λ item. item.word) items)
    → below at leaf items ≡ below other leaf items
below-agree at other leaf [] agree = refl
below-agree at other leaf (item ∷ items) agree =
    let here : at item.word ≡ other item.word = agree item.word (times-first item.word (map (λ item. item.word) items)) in
    ap (λ (words : List ℕ). node_items leaf words ++ below at leaf items) here
    ∙ ap (λ (xs : List NodeItem). items_at other leaf item.word ++ xs) (below-agree at other leaf items (λ row some. agree row (omega arith)))

-- the rows, the items of each level and the nodes are the same
pub rows_of-agree : (at other : ℕ → List ℕ) (low up : ℕ) (items : List NodeItem) → Agree at other (rows_below at low up items)
    → rows_below at low up items ≡ rows_below other low up items
unfolding rows_below
rows_of-agree at other low zero items agree = refl
rows_of-agree at other low (suc up) items agree =
    let here = map (λ (item : NodeItem). item.word) items in
    let leaf = is_leaf (low + up) in
    let deep = rows_below at low up (below at leaf items) in
    let next = below-agree at other leaf items (Agree-left at other here deep agree) in
    ap (λ (rows : List ℕ). here ++ rows) (rows_of-agree at other low up (below at leaf items) (Agree-right at other here deep agree)
    ∙ ap (λ (xs : List NodeItem). rows_below other low up xs) next)

pub level_of-agree : (at other : ℕ → List ℕ) (low up : ℕ) (items : List NodeItem) → Agree at other (rows_below at low up items)
    → level_of at low up items ≡ level_of other low up items
unfolding rows_below level_of
level_of-agree at other low zero items agree = refl
level_of-agree at other low (suc up) items agree =
    let here = map (λ (item : NodeItem). item.word) items in
    let leaf = is_leaf (low + up) in
    let deep = rows_below at low up (below at leaf items) in
    let next = below-agree at other leaf items (Agree-left at other here deep agree) in
    level_of-agree at other low up (below at leaf items) (Agree-right at other here deep agree)
    ∙ ap (λ (xs : List NodeItem). level_of other low up xs) next

node-agree : (at other : ℕ → List ℕ) (leaf : Bool) (limit start : ℕ) (item : NodeItem) → at item.word ≡ other item.word
    → IsNode at leaf limit start item → IsNode other leaf limit start item
node-agree at other leaf limit start item same node = record {
  some = subst (λ (words : List ℕ). 1 ≤ length (node_items leaf words)) same node.some;
  most = subst (λ (words : List ℕ). length (node_items leaf words) ≤ most leaf) same node.most;
  least = λ inner. subst (λ (words : List ℕ). least_items leaf ≤ length (node_items leaf words)) same (node.least inner);
  ascends = subst (λ (words : List ℕ). Ascends start (node_items leaf words)) same node.ascends;
  until = subst (λ (words : List ℕ). items_end start (node_items leaf words) ≡ item.end) same node.until;
  gap = subst (λ (words : List ℕ). gap_of leaf start (node_items leaf words) ≡ item.gap) same node.gap;
  words = subst (λ (words : List ℕ). words ≡ words_of_items leaf (node_items leaf words)) same node.words;
}

nodes-agree : (at other : ℕ → List ℕ) (leaf : Bool) (limit start : ℕ) (items : List NodeItem) → Agree at other (map (λ item. item.word) items)
    → AllFrom (IsNode at leaf limit) start items → AllFrom (IsNode other leaf limit) start items
nodes-agree at other leaf limit start [] agree nodes = tt
nodes-agree at other leaf limit start (item ∷ items) agree nodes = (
  node-agree at other leaf limit start item (agree item.word (times-first item.word (map (λ item. item.word) items))) nodes.0,
  nodes-agree at other leaf limit item.end items (λ row some. agree row (omega arith)) nodes.1,
)

pub tower-agree : (at other : ℕ → List ℕ) (limit low up : ℕ) (items : List NodeItem) → Agree at other (rows_below at low up items)
    → IsTower at limit low up items → IsTower other limit low up items
unfolding rows_below IsTower
tower-agree at other limit low zero items agree tower = tt
tower-agree at other limit low (suc up) items agree tower =
    let here = map (λ (item : NodeItem). item.word) items in
    let leaf = is_leaf (low + up) in
    let deep = rows_below at low up (below at leaf items) in
    let left = Agree-left at other here deep agree in (
      nodes-agree at other leaf limit 0 items left tower.0,
      subst (λ (xs : List NodeItem). IsTower other limit low up xs) (below-agree at other leaf items left)
          (tower-agree at other limit low up (below at leaf items) (Agree-right at other here deep agree) tower.1),
    )
