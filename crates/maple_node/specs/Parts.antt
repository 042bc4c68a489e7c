-- Parts of the items of a node.
use Rattle.std.specs.Prelude.{ℕ, Bool, true, List, nat_lt, nat_le}
use Rattle.maple_node.specs.declared.item.NodeItem.{NodeItem}
use Rattle.maple_node.specs.declared.part.Part.{Part}
use Rattle.maple_node.specs.declared.part.Part.TheVariants.{Whole, EndingBy, EndingAfter}
use Rattle.maple_node.specs.Splices.{ending_by, ending_after}

-- whether an item that ends at a page belongs to a part
abbrev pub keeps : Part → ℕ → Bool
keeps Whole end = true
keeps (EndingBy page) end = nat_le end page
keeps (EndingAfter page) end = nat_lt page end

-- a part of items: all of them, those that end up to a page, or those that end above it
abbrev pub part_of : Part → List NodeItem → List NodeItem
part_of Whole items = items
part_of (EndingBy page) items = ending_by page items
part_of (EndingAfter page) items = ending_after page items
