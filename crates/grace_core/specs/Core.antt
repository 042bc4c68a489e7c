-- A state of the grace protocol, as data.
use Rattle.std.specs.Prelude.{ℕ, ◌≡◌, ◌%◌, Bool, true, false, not, ◌&&◌, nat_eq, nat_lt, nat_le, List, [], count_by, map, slice_index_or, Option, None}
use Rattle.mm_types.specs.declared.slot.Row.{Row}
use Rattle.grace_core.specs.declared.clearing.Clearing.{Clearing}

-- a tree: its number, its rows, of which the first is the root, and the words that all rows had when it was published
pub record GraceTreeView : Type 0 where
  pub number : ℕ
  pub rows : List ℕ
  pub words : List (List ℕ)

-- What the writer knows: how many words a row has, the present tree, the words of each row, the tree whose publish left
-- each row out last (0 where none did), what the scans of each reader found, and the tree whose grace period has passed:
-- every reader was cleared up to it.
pub record WriterState : Type 0 where
  pub width : ℕ
  pub tree : GraceTreeView
  pub words : List (List ℕ)
  pub since : List ℕ
  pub clearings : List Clearing
  pub passed : ℕ

-- a state: what the writer knows, and the pin and the snapshot of each reader
pub record GraceCore : Type 0 where
  pub writer_state : WriterState
  pub pins : List ℕ
  pub snapshots : List (Option GraceTreeView)

-- the numbers of rows
abbrev pub numbers_of : List Row → List ℕ
numbers_of rows = map (λ row. row.0) rows

-- how often a row is listed
abbrev pub times : ℕ → List ℕ → ℕ
times row rows = count_by (λ other. nat_eq other row) rows

-- whether a tree has a row
abbrev pub has_row : GraceTreeView → ℕ → Bool
has_row tree row = nat_lt 0 (times row tree.rows)

-- the root of a tree
abbrev pub root_of : GraceTreeView → ℕ
root_of tree = slice_index_or tree.rows 0 0

-- the words of a row
abbrev pub row_at : List (List ℕ) → ℕ → List ℕ
row_at words row = slice_index_or words row []

-- the tree whose publish left a row out last
abbrev pub since_at : List ℕ → ℕ → ℕ
since_at since row = slice_index_or since row 0

-- what stands for a number that is no reader's: it counts as joined away
abbrev pub no_clearing : Clearing
no_clearing = record { cleared = 0; pin = 0; tree = 0; joined = true }

-- what the scans of a reader found
abbrev pub clearing_at : List Clearing → ℕ → Clearing
clearing_at clearings reader = slice_index_or clearings reader no_clearing

-- a reader's pin
abbrev pub pin_at : List ℕ → ℕ → ℕ
pin_at pins reader = slice_index_or pins reader 0

-- a reader's snapshot: the tree whose root it loaded last since it opened
abbrev pub snapshot_at : List (Option GraceTreeView) → ℕ → Option GraceTreeView
snapshot_at snapshots reader = slice_index_or snapshots reader None

-- whether a row is free: it is not of the present tree, and the grace period of the tree that left it out has passed
abbrev pub is_free_row : WriterState → ℕ → Bool
is_free_row writer_state row = not (has_row writer_state.tree row) && nat_le (since_at writer_state.since row) writer_state.passed

-- whether a row waits: it is not of the present tree, and that grace period has not passed
abbrev pub waits : WriterState → ℕ → Bool
waits writer_state row = not (has_row writer_state.tree row) && nat_lt writer_state.passed (since_at writer_state.since row)

-- whether a reader is open: its pin is odd
abbrev pub is_open : ℕ → Bool
is_open pin = nat_eq (pin % 2) 1

-- whether a reader is outside: its pin is even
abbrev pub is_outside : ℕ → Bool
is_outside pin = nat_eq (pin % 2) 0

-- a reader was made, and was not joined away
abbrev pub Exists : List Clearing → ℕ → Type 0
Exists clearings reader = (clearing_at clearings reader).joined ≡ false
