-- Nodes: what the words of a row list.
use Rattle.std.specs.Prelude.{ℕ, ◌≡◌, ◌<◌, ◌-◌, max, Bool, true, false, List, [], ◌∷◌, ◌++◌, length, replicate, if◌then◌else◌, nat_eq}
use Rattle.std.specs.List.{flat_map}
use Rattle.maple_node.specs.declared.item.NodeItem.{NodeItem}

-- the words of an item: two in a leaf, which keeps no gap, and three in an inner node
abbrev pub item_words : Bool → NodeItem → List ℕ
item_words true item = item.end ∷ item.word ∷ []
item_words false item = item.end ∷ item.word ∷ item.gap ∷ []

-- the words of a node: those of its items in order, and then zeros up to 32
unfoldable pub words_of_items : Bool → List NodeItem → List ℕ
words_of_items leaf items = flat_map (item_words leaf) items ++ replicate (32 - length (flat_map (item_words leaf) items)) 0

-- the items of a leaf: two words each, up to the first place whose first word is 0
unfoldable pub leaf_items : List ℕ → List NodeItem
leaf_items [] = []
leaf_items (end ∷ []) = []
leaf_items (end ∷ word ∷ rest) = if nat_eq end 0 then [] else (record { end = end; word = word; gap = 0 } ∷ leaf_items rest)

-- the items of an inner node: three words each, up to the first place whose first word is 0
unfoldable pub inner_items : List ℕ → List NodeItem
inner_items [] = []
inner_items (end ∷ []) = []
inner_items (end ∷ word ∷ []) = []
inner_items (end ∷ word ∷ gap ∷ rest) = if nat_eq end 0 then [] else (record { end = end; word = word; gap = gap } ∷ inner_items rest)

-- the items of a node: the entries of a leaf, or the children of an inner node
abbrev pub node_items : Bool → List ℕ → List NodeItem
node_items true words = leaf_items words
node_items false words = inner_items words

-- how many items a node has at most: a leaf 16, an inner node 10
abbrev pub most : Bool → ℕ
most true = 16
most false = 10

-- how many items a node has at least: a leaf 6, an inner node 4
abbrev pub least_items : Bool → ℕ
least_items true = 6
least_items false = 4

-- the page where items end that begin at a page
abbrev pub items_end : ℕ → List NodeItem → ℕ
items_end start [] = start
items_end start (item ∷ items) = items_end item.end items

-- each item ends above the one before, and the first above the page where they begin
abbrev pub Ascends : ℕ → List NodeItem → Type 0
Ascends start [] = Unit {0}
Ascends start (item ∷ items) = (start < item.end) × Ascends item.end items

-- the largest gap in one item: the whole of an entry that is a gap, and what the item of a child says
abbrev pub item_gap : Bool → ℕ → NodeItem → ℕ
item_gap true start item = if nat_eq item.word 0 then item.end - start else 0
item_gap false start item = item.gap

-- the largest gap in items that begin at a page
abbrev pub gap_of : Bool → ℕ → List NodeItem → ℕ
gap_of leaf start [] = 0
gap_of leaf start (item ∷ items) = max (item_gap leaf start item) (gap_of leaf item.end items)

-- the entries of a leaf keep no gap
abbrev pub KeepsNoGap : Bool → List NodeItem → Type 0
KeepsNoGap leaf [] = Unit {0}
KeepsNoGap true (item ∷ items) = (item.gap ≡ 0) × KeepsNoGap true items
KeepsNoGap false (item ∷ items) = KeepsNoGap false items
