-- Root words.
use Rattle.std.specs.Prelude.{ℕ, ◌<◌, ◌+◌, ◌*◌, ◌/◌, ◌%◌, ◌^◌}
use Rattle.maple_node.specs.declared.root.Root.{Root}

-- the root word: the row in its lowest 20 bits, then the height in 4, and then the tree's number
unfoldable pub packed_root : Root → ℕ
packed_root root = root.tree * 2 ^ 24 + root.height * 2 ^ 20 + root.row.0

-- the tree's number in a root word
abbrev pub tree_number : ℕ → ℕ
tree_number word = word / 2 ^ 24

-- the height in a root word
abbrev pub height_of : ℕ → ℕ
height_of word = word / 2 ^ 20 % 2 ^ 4

-- the row in a root word
abbrev pub row_of_root : ℕ → ℕ
row_of_root word = word % 2 ^ 20

-- the root that a root word names
unfoldable pub unpacked_root : ℕ → Root
unpacked_root word = record { tree = tree_number word; height = height_of word; row = record { 0 = row_of_root word } }

-- a root whose parts have room in a root word
pub record FitsRoot (root : Root) : Type 0 where
  pub tree : root.tree < 2 ^ 40
  pub height : root.height < 2 ^ 4
  pub row : root.row.0 < 2 ^ 20
