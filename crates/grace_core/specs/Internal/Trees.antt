-- A tree and what the writer knows, as the fields of their structs have them.
use Rattle.std.specs.Prelude.{ℕ, ◌≡◌, ◌<◌, ◌^◌, Bool, false, nat_lt, List, [], ◌∷◌, length, map, slice_index_or}
use Rattle.mm_types.specs.declared.slot.Row.{Row}
use Rattle.grace_core.specs.declared.tree.GraceTree.TheInside as tree
use Rattle.grace_core.specs.declared.writer_state.GraceWriter.TheInside as writer_state
use Rattle.grace_core.specs.Core.{GraceTreeView, WriterState, numbers_of, times}

-- rows of one word each
abbrev pub rows_of_words : List ℕ → List (List ℕ)
rows_of_words words = map (λ word. word ∷ []) words

-- a mark for each row says whether it is among these
abbrev pub AreMarks : List Bool → List Row → Type 0
AreMarks marks rows = (row : ℕ) → slice_index_or marks row false ≡ nat_lt 0 (times row (numbers_of rows))

-- the tree that the fields are
abbrev pub grace_tree_of : tree.Inside → GraceTreeView
grace_tree_of fields = record { number = fields.number; rows = numbers_of fields.rows.items; words = rows_of_words fields.words.items }

-- the marks are those of the tree's rows
abbrev pub AreRowsMarked : tree.Inside → Type 0
AreRowsMarked fields = AreMarks fields.marks.items fields.rows.items

-- the writer's state that the fields are
abbrev pub writer_state_of : writer_state.Inside → WriterState
writer_state_of fields = record {
  width = 1;
  tree = fields.tree;
  words = rows_of_words fields.words.items;
  since = fields.since.items;
  clearings = fields.clearings.items;
  passed = fields.passed;
}

-- there are as many numbers as rows, and their numbers fit 32 bits
pub record AreRowsNumbered (fields : writer_state.Inside) : Type 0 where
  pub same : length fields.since.items ≡ length fields.words.items
  pub few : length fields.words.items < 2 ^ 32
