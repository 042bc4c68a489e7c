-- What a space's name fixes: its tables, its configuration, the entries from before it, and how many operations each caller may make.
use Rattle.std.specs.Prelude.{ℕ, ◌≡◌, ◌≤◌, ◌<◌, ◌+◌, List, [], length, sum, drop, All, slice_index_or}
use Rattle.mm_types.specs.declared.call.Entry.{Entry}
use Rattle.mm_types.specs.declared.config.Config.{Config}
use Rattle.area_rules.specs.Journals.{calls_by}
use Rattle.atomic_table.specs.Seated.{TableId}
use Rattle.lock_core.specs.Core.{StartsWith}
use Rattle.vma_lock.specs.Views.{no_config}
use Rattle.fault_path.specs.Passes.{ViewedTable, PassView}
use Rattle.fault_path.specs.Passes as passes
use Rattle.mm_state.specs.States.{StateView}

-- what a space is: a table of slots and one of nodes, their configuration, the entries that its journal begins with, and how many
-- operations each caller may make
pub record SpaceId : Type 0 where
  pub table : TableId
  pub nodes : TableId
  pub config : Config
  pub before : List Entry
  pub operations : List ℕ

-- no table
abbrev pub no_table : TableId
no_table = record { words = 0; slots = 0; views_name = 0; atom = 0; block = 0; offset = 0; slot_names = [] }

-- no space
abbrev pub no_space : SpaceId
no_space = record { table = no_table; nodes = no_table; config = no_config; before = []; operations = [] }

-- the tables of the space as faults see them
abbrev pub viewed_of : SpaceId → ViewedTable
viewed_of name = record { table = name.table; nodes = name.nodes; config = name.config; callers = length name.operations }

-- these are the tables of the space
abbrev pub IsViewOf : SpaceId → ViewedTable → Type 0
IsViewOf name viewed = (viewed.table ≡ name.table) × (viewed.nodes ≡ name.nodes) × (viewed.config ≡ name.config)
    × (viewed.callers ≡ length name.operations)

-- a pass of the space: it is of its tables, and has as many operations as its caller may make
abbrev pub IsPassOf : SpaceId → PassView → Type 0
IsPassOf name pass = passes.IsTablePass (viewed_of name) name.operations pass

-- the passes of the space, one for each caller, each in its caller's place
abbrev pub ArePasses : SpaceId → List PassView → Type 0
ArePasses name all = passes.AreTablePasses (viewed_of name) name.operations all

-- each caller has at most its operations in the journal, and nobody else has an entry
abbrev pub MadeWithin : List ℕ → List Entry → Type 0
MadeWithin operations journal = (caller : ℕ) → length (calls_by caller journal) ≤ slice_index_or operations caller 0

-- what a journal has behind the entries that it begins with
abbrev pub since : List Entry → List Entry → List Entry
since before journal = drop (length before) journal

-- Entries from before a space was opened are of no caller of a space.
abbrev pub AreStrangers : List Entry → Type 0
AreStrangers before = All (λ entry. 64 ≤ entry.caller) before

-- What the state of a space keeps: it is of the space's tables and configuration, the journal begins with the entries from before,
-- each caller has at most its operations behind them, and there is room for one entry more than these and the operations of all callers,
-- which are at most 16,777,216 together.
pub record IsNamed (name : SpaceId) (state : StateView) : Type 0 where
  pub table : state.table ≡ name.table
  pub nodes : state.nodes ≡ name.nodes
  pub config : state.config ≡ name.config
  pub begins : StartsWith state.journal name.before
  pub strangers : AreStrangers name.before
  pub callers : length name.operations ≤ 64
  pub within : MadeWithin name.operations (since name.before state.journal)
  pub few : length name.before + sum name.operations ≤ 16777216
  pub room : state.room ≡ length name.before + sum name.operations + 1
