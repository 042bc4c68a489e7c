-- What the fields of the state behind the mmap lock keep.
use Rattle.std.specs.Prelude.{◌≡◌, ◌≤◌, ◌^◌, length, None}
use Rattle.std.specs.Vec.{vec_capacity}
use Rattle.mm_types.specs.Config.{IsValidConfig}
use Rattle.area_rules.specs.Placement.{bounds_of}
use Rattle.area_rules.specs.Tables.{space_of}
use Rattle.area_rules.specs.Steps.{after, IsLegalJournal}
use Rattle.split_merge.specs.Plans.{IsPlannedFor, IsFreshPlan}
use Rattle.vma_lock.specs.Seats.{table_config, vma_table_id, lock_sight, journal, slots}
use Rattle.mm_state.specs.declared.state.MmState.TheInside.{Inside}
use Rattle.mm_state.specs.Internal.AreaStores.{IsAtRest}
use Rattle.area_tree.specs.AreaTrees.{areas_of}
use Rattle.mm_state.specs.States.{StateView}

-- the state that the fields are
abbrev pub state_of : Inside → StateView
state_of state = record {
  table = vma_table_id state.store.table;
  config = state.config;
  seq = (lock_sight state.store.writer).writer_state.seq;
  turn = (lock_sight state.store.writer).turn;
  slots = slots state.store.writer;
  left = state.store.slots.left;
  journal = state.journal.items;
  room = state.room;
  nodes = state.store.areas.tree.table;
  number = state.store.areas.tree.number;
  published = state.store.areas.tree.published;
  pairs = state.store.areas.tree.shown;
  elapsed = state.store.areas.tree.elapsed;
}

-- The store is at rest and its writer has no turn. Its table has this configuration, which is valid, and its writer has seen this
-- journal, which is legal and has room. The areas and the counters are those after the journal, and the plan is fresh.
pub record IsState (state : Inside) : Type 0 where
  pub rest : IsAtRest state.store
  pub turn : (lock_sight state.store.writer).turn ≡ None
  pub settings : table_config state.store.table ≡ state.config
  pub valid : IsValidConfig state.config
  pub journal : journal state.store.writer ≡ state.journal.items
  pub legal : IsLegalJournal state.config state.journal.items
  pub space : space_of (areas_of state.store.areas) state.counters ≡ after state.config state.journal.items
  pub bounds : state.store.areas.bounds ≡ bounds_of state.config
  pub most : state.store.areas.tree.areas ≡ state.config.areas
  pub kept : IsPlannedFor state.store.areas.bounds state.store.areas.tree.areas (areas_of state.store.areas)
  pub fresh : IsFreshPlan state.config.areas state.plan
  pub room : length state.journal.items ≤ state.room
  pub entries : state.room ≤ 2 ^ 31
  pub reserved : vec_capacity state.journal ≡ state.room
