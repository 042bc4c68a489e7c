-- A store in the middle, whose levels below are built anew and stand under the levels above
-- of the old tree; and what it finds and makes.
use Rattle.std.specs.Prelude.{ℕ, ◌≡◌, ◌<◌, ◌≤◌, ◌+◌, ◌-◌, ◌*◌, ◌^◌, ◌⊎◌, nat_eq, List, [], ◌∷◌, ◌++◌, length, All, Some, get_or, false}
use Rattle.maple_node.specs.declared.item.NodeItem.{NodeItem}
use Rattle.maple_node.specs.Nodes.{words_of_items, node_items, most, least_items, items_end, Ascends, KeepsNoGap}
use Rattle.maple_node.specs.Levels.{is_leaf, at_of, items_at, below, item_at, level_of, IsTower, rows_below}
use Rattle.maple_node.specs.Trees.{Tree, entries_of, tree_rows, pairs_of, ApartFrom}
use Rattle.maple_node.specs.Splices.{ending_by, ending_after, spliced}
use Rattle.maple_node.specs.declared.place.Place.{Place}
use Rattle.maple_write.specs.declared.rows.Rooted.{Rooted}
use Rattle.maple_write.specs.declared.descent.Descent.{Descent}
use Rattle.maple_write.specs.declared.state.WriteState.{WriteState}
use Rattle.node_slots.specs.declared.seats.NodeWriter.{NodeWriter}
use Rattle.node_slots.specs.Seats.{node_sight, row_count, free_of, is_kept}
use Rattle.node_slots.specs.Built.{words_at}
use Rattle.maple_write.specs.Tables.{FillsRows}
use Rattle.maple_write.specs.Internal.Tables.{RowTable, table_at, Stand}

-- the nodes of a tree from a level up, counted from the entries, meet the layout
abbrev pub IsUpper : (ℕ → List ℕ) → Rooted → ℕ → Type 0
IsUpper at tree height = IsTower at tree.top.end height (tree.height - height) (tree.top ∷ [])

-- the rows of the nodes above a level
abbrev pub upper_rows : (ℕ → List ℕ) → Rooted → ℕ → List ℕ
upper_rows at tree height = rows_below at height (tree.height - height) (tree.top ∷ [])

-- the items of a level of the old tree
abbrev pub old_level : RowTable → Rooted → ℕ → List NodeItem
old_level table tree height = level_of (at_of table.rows) height (tree.height - height) (tree.top ∷ [])

-- A level of a store: the old tree, how high the level is above the entries, and the new items, which stand for its pages from
-- `lo` up to `hi`.
pub record Level : Type 0 where
  pub tree : Rooted
  pub height : ℕ
  pub lo : ℕ
  pub hi : ℕ
  pub new : List NodeItem

-- the level where a store is
abbrev pub level_in : WriteState → Level
level_in state = record {
  tree = state.descent.now.tree;
  height = state.level;
  lo = state.lo;
  hi = state.replacement.end;
  new = state.replacement.items.items;
}

-- the next level up, whose new items are nodes up to a page
abbrev pub next_level : Level → ℕ → List NodeItem → Level
next_level level end nodes = record level { height = level.height + 1; hi = end; new = nodes }

-- the old nodes that list the items of a level
abbrev pub old_nodes : RowTable → Level → List NodeItem
old_nodes table level = old_level table level.tree (level.height + 1)

-- where the one of them begins that has the first page
abbrev pub node_begin : RowTable → Level → ℕ
node_begin table level = items_end 0 (ending_by level.lo (old_nodes table level))

-- the items of a level with the new ones
abbrev pub new_level : RowTable → Level → List NodeItem
new_level table level = spliced level.lo level.hi level.new (old_level table level.tree level.height)

-- the entries under them
abbrev pub new_entries : RowTable → Level → List NodeItem
new_entries table level = level_of (at_of table.rows) 0 level.height (new_level table level)

-- the rows of the levels above that are still the old tree's, and of the levels below that are built
abbrev pub partly_rows : RowTable → Level → List ℕ
partly_rows table level = upper_rows (at_of table.rows) level.tree level.height ++ rows_below (at_of table.rows) 0 level.height (new_level table level)

-- the levels below are built, and those above are the old tree's
pub record Partly (table : RowTable) (level : Level) : Type 0 where
  pub within : level.height ≤ level.tree.height
  pub some : 1 ≤ length level.new
  pub few : length level.new ≤ 3
  pub pages : level.lo < level.hi
  pub limit : level.hi ≤ level.tree.top.end
  pub tower : IsUpper (at_of table.rows) level.tree level.height
  pub built : IsTower (at_of table.rows) level.tree.top.end 0 level.height (new_level table level)
  pub ascends : Ascends 0 (new_level table level)
  pub ending : items_end (items_end 0 (ending_by level.lo (old_level table level.tree level.height))) level.new ≡ level.hi
  -- the new items end where an old one did
  pub edge : 1 ≤ level.height → items_end 0 (ending_by level.hi (old_level table level.tree level.height)) ≡ level.hi
  pub plain : KeepsNoGap (is_leaf level.height) level.new
  pub stand : Stand table (partly_rows table level)
  pub free : 3 * (level.tree.height - level.height) + 3 ≤ length table.free

-- items from where an old node begins up to where one ends, that are to be nodes anew
pub record Cut (table : RowTable) (level : Level) (begin end : ℕ) (items : List NodeItem) : Type 0 where
  pub split : new_level table level
      ≡ below (at_of table.rows) (is_leaf level.height) (ending_by level.lo (old_nodes table level))
      ++ (items ++ below (at_of table.rows) (is_leaf level.height) (ending_after end (old_nodes table level)))
  pub start : begin ≡ node_begin table level
  pub ending : items_end begin items ≡ end
  pub ascends : Ascends begin items
  pub plain : KeepsNoGap (is_leaf level.height) items
  pub some : 1 ≤ length items
  pub few : length items ≤ 2 * most (is_leaf level.height) + 3
  pub edge : items_end 0 (ending_by end (old_nodes table level)) ≡ end
  pub above : level.lo < end
  pub limit : end ≤ level.tree.top.end

-- the words of a node that is made anew in the place of this one, which begins and ends where it does
pub record IsRenewed (table : RowTable) (level : Level) (left : Place) (words : List ℕ) : Type 0 where
  pub cut : Cut table level left.start left.item.end (node_items (is_leaf level.height) words)
  pub whole : words ≡ words_of_items (is_leaf level.height) (node_items (is_leaf level.height) words)
  pub most : length (node_items (is_leaf level.height) words) ≤ most (is_leaf level.height)
  pub least : left.item.end < level.tree.top.end → least_items (is_leaf level.height) ≤ length (node_items (is_leaf level.height) words)

-- the rows show a tree whose nodes meet the layout, and each row is free, left, or a node's that is reached once
pub record IsShaped (table : RowTable) (tree : Tree) : Type 0 where
  pub tall : 1 ≤ tree.height
  pub limit : 0 < tree.top.end
  pub tower : IsTower (at_of table.rows) tree.top.end 0 tree.height (tree.top ∷ [])
  pub wide : 2 ≤ tree.height → 2 ≤ length (items_at (at_of table.rows) false tree.top.word)
  pub stand : Stand table (tree_rows (at_of table.rows) tree)

-- a tree as the item and the height of its root tell it
abbrev pub tree_under : Rooted → Tree
tree_under rooted = record { top = rooted.top; height = rooted.height }

-- a tree that meets the layout, whose slots are below so many, and whose nodes are the rows that are neither free nor left
pub record IsWholeTree (table : RowTable) (slots : ℕ) (tree : Tree) : Type 0 where
  pub shaped : IsShaped table tree
  pub apart : ApartFrom 1 (entries_of (at_of table.rows) tree)
  pub numbered : All (λ entry. entry.word ≤ slots) (entries_of (at_of table.rows) tree)

-- one gap from page 0 up to a page
abbrev pub all_gap : ℕ → List NodeItem
all_gap limit = record { end = limit; word = 0; gap = 0 } ∷ []

-- tree 0 is found: its root lists nothing, and each row but row 0 is free
pub record IsBare (writer : NodeWriter) (rooted : Rooted) : Type 0 where
  pub none : rooted.top.end ≡ 0
  pub pairs : pairs_of (words_at writer) (tree_under rooted) ≡ []
  pub rows : 1 ≤ row_count writer
  pub kept : (row : ℕ) → is_kept writer row ≡ nat_eq row 0

-- what a store finds: a tree whose entries have the pages up to the limit, or tree 0
abbrev pub FindsTree : NodeWriter → Rooted → ℕ → Type 0
FindsTree writer old limit = (IsWholeTree (table_at writer) (node_sight writer).size.slots (tree_under old) × (old.top.end ≡ limit)) ⊎ IsBare writer old

-- the item of a level that has a page, and where it begins, in the tree under these rows
pub record HasPage (at : ℕ → List ℕ) (tree : Rooted) (level page : ℕ) (place : Place) : Type 0 where
  pub item : item_at page (level_of at level (tree.height - level) (tree.top ∷ [])) ≡ Some place.item
  pub start : place.start ≡ items_end 0 (ending_by page (level_of at level (tree.height - level) (tree.top ∷ [])))
  pub above : place.start ≤ page

-- a place of no level
abbrev pub no_place : Place
no_place = record { start = 0; item = record { end = 0; word = 0; gap = 0 } }

-- what a descent keeps of a level
abbrev pub place_at : Descent → ℕ → Place
place_at descent level = get_or descent.places level no_place

-- A descent keeps, for each of nine levels from one on, the item that has its page, and where this begins. Only the rows of
-- nodes above those levels matter.
pub record IsDescent (at : ℕ → List ℕ) (low : ℕ) (descent : Descent) : Type 0 where
  pub each : (level : ℕ) → low ≤ level → level < descent.tree.height → level < 9
      → HasPage at descent.tree level descent.page (place_at descent level)

-- a store is at a level: the table is partly built, and the descent keeps the levels above
pub record IsWriting (writer : NodeWriter) (state : WriteState) : Type 0 where
  pub partly : Partly (table_at writer) (level_in state)
  pub descent : IsDescent (words_at writer) (state.level + 1) state.descent.now
  pub fits : state.descent.now.tree.height < 2 ^ 31

-- A level was built anew: the new items of the next one stand for its nodes, which list the level as it was to be. At most three
-- rows were taken.
pub record RebuildsLevel (old new : NodeWriter) (before after : WriteState) : Type 0 where
  pub fills : FillsRows old new
  pub writing : IsWriting new after
  pub up : after ≡ record before { level = before.level + 1; replacement = after.replacement }
  pub begin : after.replacement.begin ≡ node_begin (table_at new) (level_in before)
  pub under : below (words_at new) (is_leaf before.level) (new_level (table_at new) (level_in after)) ≡ new_level (table_at old) (level_in before)
  pub entries : new_entries (table_at new) (level_in after) ≡ new_entries (table_at old) (level_in before)
  pub free : length (free_of old) ≤ length (free_of new) + 3
