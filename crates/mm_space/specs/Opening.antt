-- What a space that can be opened keeps.
use Rattle.std.specs.Prelude.{ℕ, ◌≡◌, ◌≤◌, ◌<◌, ◌+◌, List, [], length, map, sum, slice_get, Some}
use Rattle.mm_types.specs.declared.call.Entry.{Entry}
use Rattle.fault_path.specs.Passes.{ViewedTable, PassView, seen_by, looks_of, walks_of}
use Rattle.mm_state.specs.States.{StateView}
use Rattle.mm_space.specs.Names.{SpaceId, ArePasses, AreStrangers}

-- how many operations the passes have, each in its place
abbrev pub operations_of : List PassView → List ℕ
operations_of passes = map (λ pass. pass.operations) passes

-- nothing was done with the pass, which has seen these entries by one look at most, and walked no tree
pub record IsOpened (before : List Entry) (pass : PassView) : Type 0 where
  pub seen : seen_by pass ≡ before
  pub log : pass.log ≡ []
  pub left : pass.left ≡ pass.operations
  pub looks : looks_of pass ≤ 1
  pub walks : walks_of pass ≡ 0

-- the passes of the space, with none of which anything was done, and each of which has seen the entries from before
pub record AreOpened (name : SpaceId) (passes : List PassView) : Type 0 where
  pub passes_are : ArePasses name passes
  pub opened : (place : ℕ) (pass : PassView) → slice_get passes place ≡ Some pass → IsOpened name.before pass

-- the space that a state and passes make, at these tables
abbrev pub viewed_space : ViewedTable → StateView → List PassView → SpaceId
viewed_space viewed state passes = record {
  table = viewed.table;
  nodes = viewed.nodes;
  config = viewed.config;
  before = state.journal;
  operations = operations_of passes;
}

-- the space that a state makes with passes that meet it
abbrev pub met_space : StateView → List PassView → SpaceId
met_space state passes = record {
  table = state.table;
  nodes = state.nodes;
  config = state.config;
  before = state.journal;
  operations = operations_of passes;
}

-- The state is of the viewed tables and their configuration, its journal is of no caller, with the passes nothing was done and they
-- have seen the journal, and there is room for one entry more than it has and all their operations, which are at most 16,777,216
-- together, and for their logs.
pub record CanBeOpened (viewed : ViewedTable) (state : StateView) (passes : List PassView) (logs reserved : ℕ) : Type 0 where
  pub table : state.table ≡ viewed.table
  pub nodes : state.nodes ≡ viewed.nodes
  pub config : state.config ≡ viewed.config
  pub strangers : AreStrangers state.journal
  pub opened : AreOpened (viewed_space viewed state passes) passes
  pub callers : viewed.callers ≡ length passes
  pub most : length passes ≤ 64
  pub few : length state.journal + sum (operations_of passes) ≤ 16777216
  pub room : state.room ≡ length state.journal + sum (operations_of passes) + 1
  pub empty : logs ≡ 0
  pub reserve : reserved ≡ length passes
