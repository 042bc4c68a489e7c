-- A pass: a caller's seats at both tables with the log of its reads, and how many operations it has left.
use Rattle.std.specs.Prelude.{ℕ, ◌≡◌, ◌≤◌, ◌+◌, List, [], length, slice_get, slice_index_or, Some, All, AllPairs}
use Rattle.mm_types.specs.declared.call.Entry.{Entry}
use Rattle.mm_types.specs.declared.call.Seen.{Seen}
use Rattle.mm_types.specs.declared.config.Config.{Config}
use Rattle.mm_types.specs.Config.{IsValidConfig, rows_for, slots_for}
use Rattle.area_rules.specs.Journals.{calls_by, version_of, IsReadRight}
use Rattle.area_rules.specs.Steps.{IsLegalJournal}
use Rattle.lock_core.specs.declared.stage.Stage.TheVariants.{Out}
use Rattle.lock_core.specs.Core.{StartsWith}
use Rattle.atomic_table.specs.Seated.{TableId}
use Rattle.vma_lock.specs.declared.seats.ReaderSeat.{ReaderSeat}
use Rattle.vma_lock.specs.Seats.{lock_view, seen, stage, HasTurn}
use Rattle.node_slots.specs.declared.seats.NodeSeat.{NodeSeat}
use Rattle.node_slots.specs.declared.view.NodeView.{NodeView}
use Rattle.node_slots.specs.declared.view.Size.{Size}
use Rattle.node_slots.specs.declared.seats.NodeWriter.{NodeWriter}
use Rattle.fault_path.specs.declared.pass.Rest.{Rest}
use Rattle.node_slots.specs.Opening.{IsFreeFrom}
use Rattle.node_slots.specs.Views.{opened_node_view}
use Rattle.node_slots.specs.Seats as node_seats

-- the two tables that faults look at: which they are, their configuration, and for how many callers they were made
pub record ViewedTable : Type 0 where
  pub table : TableId
  pub nodes : TableId
  pub config : Config
  pub callers : ℕ

-- how large the table of nodes is: it has rows and slots enough for the areas of a call's list before and after it
abbrev pub node_size : Config → ℕ → Size
node_size config callers = record { rows = rows_for config.areas; slots = slots_for config.areas; readers = callers }

-- what a view of tables keeps: it has the configuration of its table of areas, which is valid, and the table of nodes has the
-- size that goes with it
pub record IsViewed (settings : Config) (size : Size) (kept : Config) : Type 0 where
  pub valid : IsValidConfig settings
  pub config_is : kept ≡ settings
  pub size_is : size ≡ node_size settings size.readers

-- the writer of a new table of nodes: tree 0 is present in row 0, and all other rows are free
pub record IsNewWriter (settings : Config) (callers : ℕ) (writer : NodeWriter) : Type 0 where
  pub view : node_seats.node_sight writer ≡ opened_node_view (node_size settings callers) callers
  pub free : IsFreeFrom 1 (rows_for settings.areas) (node_seats.free_of writer)
  pub left : node_seats.retired_rows writer ≡ []

-- a pass as contracts see it: the seats at both tables, the reads so far, how many operations are left, how many it was made with,
-- and how often it took the mmap lock
pub record PassView : Type 0 where
  pub reader : ReaderSeat
  pub nodes : NodeSeat
  pub log : List Seen
  pub left : ℕ
  pub operations : ℕ
  pub takes : ℕ

-- the pass of a seat at the table of areas, with how often it took the mmap lock, and the rest that a pass has
abbrev pub pass_of : ReaderSeat → ℕ → Rest → PassView
pass_of reader takes rest =
    record { reader = reader; nodes = rest.nodes; log = rest.log.items; left = rest.left; operations = rest.operations; takes = takes }

-- whose pass it is
abbrev pub caller : PassView → ℕ
caller pass = (lock_view pass.reader).caller

-- the configuration of its table
abbrev pub pass_config : PassView → Config
pass_config pass = (lock_view pass.reader).config

-- the journal as the pass has seen it
abbrev pub seen_by : PassView → List Entry
seen_by pass = seen pass.reader

-- the entries that its caller made, in order
abbrev pub made_by : PassView → List Entry
made_by pass = calls_by (caller pass) (seen_by pass)

-- how often it looked at the sequence
abbrev pub looks_of : PassView → ℕ
looks_of pass = (lock_view pass.reader).trace.looks

-- what its seat at the table of nodes knows
abbrev pub walker : PassView → NodeView
walker pass = node_seats.node_view pass.nodes

-- how often it walked the tree of areas
abbrev pub walks_of : PassView → ℕ
walks_of pass = (walker pass).walks

-- What is kept of a pass, while its seat holds a slot too: it has seen a legal journal, has its caller's turn, its pin is closed,
-- each read of its log is right in what it has seen, versions rise along the log, and what it made, what it read and what is left
-- are no more than its operations, for which its log has exactly the room.
pub record KeepsPass (pass : PassView) (reserved : ℕ) : Type 0 where
  pub legal : IsLegalJournal (pass_config pass) (seen_by pass)
  pub turn : HasTurn pass.reader
  pub closed : node_seats.IsClosed pass.nodes
  pub right : All (IsReadRight (pass_config pass) (seen_by pass)) pass.log
  pub rises : AllPairs (λ earlier later. version_of earlier ≤ version_of later) pass.log
  pub few : length (made_by pass) + length pass.log + pass.left ≤ pass.operations
  pub room : reserved ≡ pass.operations

-- what a pass keeps: all this, and its seat holds no slot
pub record IsPass (pass : PassView) (reserved : ℕ) : Type 0 where
  pub keeps : KeepsPass pass reserved
  pub free : stage pass.reader ≡ Out

-- the seats of the pass are at these tables
pub record SitsAtTables (viewed : ViewedTable) (pass : PassView) : Type 0 where
  pub table : pass.reader.seat.table_id ≡ viewed.table
  pub nodes : pass.nodes.seat.table_id ≡ viewed.nodes
  pub size : (walker pass).size ≡ node_size viewed.config viewed.callers
  pub config_is : pass_config pass ≡ viewed.config

-- the pass is of these tables, and has as many operations as its caller may make
pub record IsTablePass (viewed : ViewedTable) (most : List ℕ) (pass : PassView) : Type 0 where
  pub sits : SitsAtTables viewed pass
  pub operations : pass.operations ≡ slice_index_or most (caller pass) 0

-- nothing was done with the pass
pub record IsFreshPass (pass : PassView) : Type 0 where
  pub seen : seen_by pass ≡ []
  pub log : pass.log ≡ []
  pub left : pass.left ≡ pass.operations

-- passes that never looked at the sequence, nor walked the tree of areas
abbrev pub AreUnused : List PassView → Type 0
AreUnused passes = (place : ℕ) (pass : PassView) → slice_get passes place ≡ Some pass → (looks_of pass ≡ 0) × (walks_of pass ≡ 0)

-- the same pass, later: it has seen what it had seen, and maybe more
pub record IsLater (old new : PassView) : Type 0 where
  pub by : caller new ≡ caller old
  pub table : new.reader.seat.table_id ≡ old.reader.seat.table_id
  pub nodes : new.nodes.seat.table_id ≡ old.nodes.seat.table_id
  pub size : (walker new).size ≡ (walker old).size
  pub config_is : pass_config new ≡ pass_config old
  pub operations : new.operations ≡ old.operations
  pub later : StartsWith (seen_by new) (seen_by old)

-- the passes of these tables: one for each caller, each in its caller's place
pub record AreTablePasses (viewed : ViewedTable) (most : List ℕ) (passes : List PassView) : Type 0 where
  pub all : length passes ≡ length most
  pub each : (place : ℕ) (pass : PassView) → slice_get passes place ≡ Some pass → IsTablePass viewed most pass × (caller pass ≡ place)

-- such passes with which nothing was done
pub record AreFresh (viewed : ViewedTable) (most : List ℕ) (passes : List PassView) : Type 0 where
  pub passes_are : AreTablePasses viewed most passes
  pub fresh : (place : ℕ) (pass : PassView) → slice_get passes place ≡ Some pass → IsFreshPass pass
