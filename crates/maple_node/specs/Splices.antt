-- Items in the place of those between two pages, and the span of a gap with the gaps beside it.
use Rattle.std.specs.Prelude.{ℕ, ◌-◌, List, [], ◌∷◌, ◌++◌, Option, Some, None, if◌then◌else◌, nat_eq, nat_lt, nat_le}
use Rattle.std.specs.List.{filter}
use Rattle.maple_node.specs.declared.item.NodeItem.{NodeItem}
use Rattle.maple_node.specs.Nodes.{items_end}
use Rattle.maple_node.specs.Levels.{item_at}

-- the items that end up to a page
abbrev pub ending_by : ℕ → List NodeItem → List NodeItem
ending_by page items = filter (λ item. nat_le item.end page) items

-- the items that end above a page
abbrev pub ending_after : ℕ → List NodeItem → List NodeItem
ending_after page items = filter (λ item. nat_lt page item.end) items

-- items with new ones in the place of those between the ones that end up to `lo` and the ones that end above `hi`
abbrev pub spliced : ℕ → ℕ → List NodeItem → List NodeItem → List NodeItem
spliced lo hi new items = ending_by lo items ++ (new ++ ending_after hi items)

-- the part below a page of the entry that has it, as an entry, where the entry begins below the page
abbrev pub piece_of : ℕ → ℕ → Option NodeItem → List NodeItem
piece_of start page None = []
piece_of start page (Some item) = if nat_lt start page then (record { end = page; word = item.word; gap = 0 } ∷ []) else []

-- that part of entries that begin at page 0
unfoldable pub piece_below : ℕ → List NodeItem → List NodeItem
piece_below page entries = piece_of (items_end 0 (ending_by page entries)) page (item_at page entries)

-- entries with one that has this word for the pages from `lo` up to `hi`, in the place of what they had
abbrev pub overwrite : ℕ → ℕ → ℕ → List NodeItem → List NodeItem
overwrite lo hi word entries = spliced lo hi (piece_below lo entries ++ (record { end = hi; word = word; gap = 0 } ∷ [])) entries

-- where an entry begins if it is a gap, and otherwise the page
abbrev pub gap_begin : ℕ → ℕ → Option NodeItem → ℕ
gap_begin start page None = page
gap_begin start page (Some item) = if nat_eq item.word 0 then start else page

-- where a gap from a page on begins, with the gap that has the page before
unfoldable pub widened_lo : ℕ → List NodeItem → ℕ
widened_lo page entries = if nat_eq page 0 then 0 else gap_begin (items_end 0 (ending_by (page - 1) entries)) page (item_at (page - 1) entries)

-- where an entry ends if it is a gap, and otherwise the page
abbrev pub gap_end : ℕ → Option NodeItem → ℕ
gap_end page None = page
gap_end page (Some item) = if nat_eq item.word 0 then item.end else page

-- where a gap up to a page ends, with the gap that has the page
unfoldable pub widened_hi : ℕ → List NodeItem → ℕ
widened_hi page entries = gap_end page (item_at page entries)
