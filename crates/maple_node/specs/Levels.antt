-- Trees by levels: the items of each level, read from the rows. Level 0 lists the entries, and the items of each level above are
-- the nodes of the level below.
use Rattle.std.specs.Prelude.{ℕ, zero, suc, ◌≡◌, ◌<◌, ◌≤◌, ◌+◌, Bool, List, [], ◌∷◌, ◌++◌, map, length, get_or, Option, if◌then◌else◌, nat_eq, nat_lt}
use Rattle.std.specs.List.{flat_map, find}
use Rattle.maple_node.specs.declared.item.NodeItem.{NodeItem}
use Rattle.maple_node.specs.Nodes.{words_of_items, node_items, most, least_items, items_end, Ascends, gap_of}

-- whether a level is that of the entries, whose nodes are leaves
abbrev pub is_leaf : ℕ → Bool
is_leaf level = nat_eq level 0

-- the words of each row of a table
abbrev pub at_of : List (List ℕ) → ℕ → List ℕ
at_of rows row = get_or rows row []

-- the items of the node in a row
abbrev pub items_at : (ℕ → List ℕ) → Bool → ℕ → List NodeItem
items_at at leaf row = node_items leaf (at row)

-- the items of the nodes that items point to, which are those of the level below
abbrev pub below : (ℕ → List ℕ) → Bool → List NodeItem → List NodeItem
below at leaf items = flat_map (λ item. items_at at leaf item.word) items

-- the item that has a page: the first that ends above it
abbrev pub item_at : ℕ → List NodeItem → Option NodeItem
item_at page items = find (λ item. nat_lt page item.end) items

-- what holds of each item and the page where it begins
abbrev pub AllFrom : (ℕ → NodeItem → Type 0) → ℕ → List NodeItem → Type 0
AllFrom P start [] = Unit {0}
AllFrom P start (item ∷ items) = P start item × AllFrom P item.end items

-- the row of an item that begins at a page is a node
pub record IsNode (at : ℕ → List ℕ) (leaf : Bool) (limit start : ℕ) (item : NodeItem) : Type 0 where
  -- it has an item
  pub some : 1 ≤ length (items_at at leaf item.word)
  -- it has at most 16 or 10
  pub most : length (items_at at leaf item.word) ≤ most leaf
  -- it has at least 6 or 4, but on the rightmost path, whose nodes end at the limit
  pub least : item.end < limit → least_items leaf ≤ length (items_at at leaf item.word)
  -- its items ascend from where it begins
  pub ascends : Ascends start (items_at at leaf item.word)
  -- the last ends where the node does
  pub until : items_end start (items_at at leaf item.word) ≡ item.end
  -- the gap that is told of it is its largest
  pub gap : gap_of leaf start (items_at at leaf item.word) ≡ item.gap
  -- the row has the words of its items and zeros
  pub words : at item.word ≡ words_of_items leaf (items_at at leaf item.word)

-- the items of level `low`, which lies so many levels below these items
unfoldable pub level_of : (ℕ → List ℕ) → ℕ → ℕ → List NodeItem → List NodeItem
level_of at low zero items = items
level_of at low (suc up) items = level_of at low up (below at (is_leaf (low + up)) items)

-- from these items, so many levels above level `low`, down to that level, each item above it is a node
unfoldable pub IsTower : (ℕ → List ℕ) → ℕ → ℕ → ℕ → List NodeItem → Type 0
IsTower at limit low zero items = Unit {0}
IsTower at limit low (suc up) items = AllFrom (IsNode at (is_leaf (low + up)) limit) 0 items
    × IsTower at limit low up (below at (is_leaf (low + up)) items)

-- the rows of those nodes, each as often as it is pointed to
unfoldable pub rows_below : (ℕ → List ℕ) → ℕ → ℕ → List NodeItem → List ℕ
rows_below at low zero items = []
rows_below at low (suc up) items = map (λ item. item.word) items ++ rows_below at low up (below at (is_leaf (low + up)) items)

-- how often a row is among rows
abbrev pub times_among : ℕ → List ℕ → ℕ
times_among row [] = 0
times_among row (other ∷ rows) = (if nat_eq other row then 1 else 0) + times_among row rows

-- two tables have the same words in each of these rows
abbrev pub Agree : (ℕ → List ℕ) → (ℕ → List ℕ) → List ℕ → Type 0
Agree at other rows = (row : ℕ) → 1 ≤ times_among row rows → at row ≡ other row
