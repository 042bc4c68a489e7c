-- What every state of the grace protocol keeps.
use Rattle.std.specs.Prelude.{ℕ, ◌≡◌, ◌≤◌, ◌<◌, ◌%◌, ◌^◌, true, false, List, length, Some}
use Rattle.grace_core.specs.declared.clearing.Clearing.{Clearing}
use Rattle.grace_core.specs.Core.{GraceTreeView, WriterState, GraceCore, has_row, row_at, since_at, clearing_at, pin_at, snapshot_at, is_free_row, Exists}
use Rattle.grace_core.specs.Steps.{cleared_up_to}

-- the rows of a tree exist, and have the words that they had when the tree was published
pub record KeepsWords (words : List (List ℕ)) (tree : GraceTreeView) : Type 0 where
  pub exist : (row : ℕ) → has_row tree row ≡ true → row < length words
  pub same : (row : ℕ) → has_row tree row ≡ true → row_at words row ≡ row_at tree.words row

-- A row that waits since tree t is held for a reader: the grace period of t has not passed, the reader is cleared up to a
-- tree below t, and where its last scan was made at t or later, that scan found the pin that the reader has now.
pub record IsRowHeld (passed : ℕ) (clearing : Clearing) (pin t : ℕ) : Type 0 where
  pub not_free : passed < t
  pub below : clearing.cleared < t
  pub found : t ≤ clearing.tree → clearing.pin ≡ pin

-- the rows of a reader's snapshot that the present tree has no more are held for the reader
abbrev pub HoldsRows : WriterState → ℕ → ℕ → GraceTreeView → Type 0
HoldsRows writer_state reader pin tree = (row : ℕ) → has_row tree row ≡ true → has_row writer_state.tree row ≡ false
    → IsRowHeld writer_state.passed (clearing_at writer_state.clearings reader) pin (since_at writer_state.since row)

-- what is kept of a reader that has a snapshot of a tree: it is open and counts, and the tree's rows stay as they are
pub record Keeps (writer_state : WriterState) (reader pin : ℕ) (tree : GraceTreeView) : Type 0 where
  pub odd : pin % 2 ≡ 1
  pub exists : Exists writer_state.clearings reader
  pub words : KeepsWords writer_state.words tree
  pub holds : HoldsRows writer_state reader pin tree

-- the free fact: no reader is cleared up to a tree above the present one, and no last scan was made at a tree above it
pub record FreeFact (writer_state : WriterState) : Type 0 where
  pub cleared : (reader : ℕ) → (clearing_at writer_state.clearings reader).cleared ≤ writer_state.tree.number
  pub scanned : (reader : ℕ) → (clearing_at writer_state.clearings reader).tree ≤ writer_state.tree.number

-- What else the writer's knowledge keeps: the rows of the present tree stay as they were published, each row has the same
-- number of words, no row waits since a tree to come, and a grace period has passed once every reader is cleared.
pub record WriterFacts (writer_state : WriterState) : Type 0 where
  pub present : KeepsWords writer_state.words writer_state.tree
  pub wide : (row : ℕ) → row < length writer_state.words → length (row_at writer_state.words row) ≡ writer_state.width
  pub sized : length writer_state.since ≡ length writer_state.words
  pub since : (row : ℕ) → since_at writer_state.since row ≤ writer_state.tree.number
  pub before : (reader : ℕ) → (clearing_at writer_state.clearings reader).cleared ≤ (clearing_at writer_state.clearings reader).tree
  pub passed : writer_state.passed ≤ writer_state.tree.number
  pub reached : cleared_up_to writer_state.tree.number writer_state.clearings ≤ writer_state.passed
  pub free : FreeFact writer_state

-- The pin fact: a pin fits a word, and only a reader that exists and is open, so that its pin is odd, has a snapshot.
pub record PinFact (core : GraceCore) : Type 0 where
  pub fits : (reader : ℕ) → pin_at core.pins reader < 2 ^ 64
  pub only_open : (reader : ℕ) (tree : GraceTreeView) → snapshot_at core.snapshots reader ≡ Some tree
      → (pin_at core.pins reader % 2 ≡ 1) × Exists core.writer_state.clearings reader

-- the snapshot fact: each row of a snapshot has the words that it had when the root was loaded
abbrev pub SnapshotFact : GraceCore → Type 0
SnapshotFact core = (reader : ℕ) (tree : GraceTreeView) → snapshot_at core.snapshots reader ≡ Some tree → KeepsWords core.writer_state.words tree

-- The waiting fact: a row of a snapshot is not free. Where it waits since tree t, its reader is cleared up to a tree below
-- t, and where the reader's last scan was made at t or later, that scan found the pin that the reader has now.
abbrev pub WaitingFact : GraceCore → Type 0
WaitingFact core = (reader : ℕ) (tree : GraceTreeView) → snapshot_at core.snapshots reader ≡ Some tree
    → HoldsRows core.writer_state reader (pin_at core.pins reader) tree

-- the four facts of a state, of which the writer_facts has the free fact, with what else it keeps
pub record GraceFacts (core : GraceCore) : Type 0 where
  pub pins : PinFact core
  pub snapshots : SnapshotFact core
  pub waiting : WaitingFact core
  pub writer_facts : WriterFacts core.writer_state
