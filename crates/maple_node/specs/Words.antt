-- Places of a node, read and packed one by one.
use Rattle.std.specs.Prelude.{ℕ, ◌≡◌, ◌<◌, ◌≤◌, ◌+◌, ◌-◌, ◌*◌, ◌^◌, ◌&&◌, List, All, map, length, slice_get, Option, Some, None, if◌then◌else◌, nat_eq, nat_lt, nat_le, slice_index}
use Rattle.mm_types.specs.declared.slot.Slot.{Slot}
use Rattle.mm_types.specs.declared.slot.Row.{Row}
use Rattle.maple_node.specs.declared.item.NodeItem.{NodeItem}
use Rattle.maple_node.specs.Nodes.{Ascends}

-- an entry of a leaf: the first page after it, and its slot, or none for a gap
abbrev pub Entry : Type 0
Entry = ℕ × Option Slot

-- a child of an inner node: the first page after it, its row, and its largest gap in pages
abbrev pub Child : Type 0
Child = ℕ × Row × ℕ

-- the word of a slot: its number plus 1, or 0 for none
abbrev pub slot_word : Option Slot → ℕ
slot_word None = 0
slot_word (Some slot) = slot.0 + 1

-- the slot that a word tells
abbrev pub slot_of : ℕ → Option Slot
slot_of word = if nat_eq word 0 then None else Some (record { 0 = word - 1 })

-- an entry as an item
abbrev pub entry_item : Entry → NodeItem
entry_item entry = record { end = entry.0; word = slot_word entry.1; gap = 0 }

-- a child as an item
abbrev pub child_item : Child → NodeItem
child_item child = record { end = child.0; word = child.1.0; gap = child.2 }

-- the entry at a place of a leaf: none from place 16 on, where the first word is 0, and where the second is above 2^32
unfoldable pub leaf_entry : List ℕ → ℕ → Option Entry
leaf_entry words place = let end = slice_index words (2 * place) in let word = slice_index words (2 * place + 1) in
    if nat_lt place 16 && (nat_lt 0 end && nat_le word (2 ^ 32)) then Some (end, slot_of word) else None

-- the child at a place of an inner node: none from place 10 on, where the first word is 0, and where the second has more than 32 bits
unfoldable pub inner_child : List ℕ → ℕ → Option Child
inner_child words place = let end = slice_index words (3 * place) in let word = slice_index words (3 * place + 1) in
    if nat_lt place 10 && (nat_lt 0 end && nat_lt word (2 ^ 32)) then Some (end, record { 0 = word }, slice_index words (3 * place + 2)) else None

-- entries that a leaf has room for: at most 16, whose ends ascend above 0, and whose slots have numbers of 32 bits
pub record FitsLeaf (entries : List Entry) : Type 0 where
  pub few : length entries ≤ 16
  pub ascends : Ascends 0 (map entry_item entries)
  pub slots : All (λ entry. slot_word entry.1 ≤ 2 ^ 32) entries

-- children that an inner node has room for: at most 10, whose ends ascend above 0, and whose rows have numbers of 32 bits
pub record FitsInner (children : List Child) : Type 0 where
  pub few : length children ≤ 10
  pub ascends : Ascends 0 (map child_item children)
  pub rows : All (λ child. child.1.0 < 2 ^ 32) children

-- 32 words that read as these entries in the first places, and are 0 after them
pub record IsLeafOf (words : List ℕ) (entries : List Entry) : Type 0 where
  pub sized : length words ≡ 32
  pub used : (place : ℕ) → place < length entries → leaf_entry words place ≡ slice_get entries place
  pub unused : (index : ℕ) → 2 * length entries ≤ index → index < 32 → slice_index words index ≡ 0

-- 32 words that read as these children in the first places, and are 0 after them
pub record IsInnerOf (words : List ℕ) (children : List Child) : Type 0 where
  pub sized : length words ≡ 32
  pub used : (place : ℕ) → place < length children → inner_child words place ≡ slice_get children place
  pub unused : (index : ℕ) → 3 * length children ≤ index → index < 32 → slice_index words index ≡ 0
