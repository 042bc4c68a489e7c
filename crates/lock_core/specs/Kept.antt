-- What the fields of a state with its configuration keep.
use Rattle.std.specs.Prelude.{◌≡◌, ◌<◌, ◌^◌, length}
use Rattle.mm_types.specs.Config.{IsValidConfig}
use Rattle.area_rules.specs.Steps.{after}
use Rattle.area_rules.specs.Tables.{space_of}
use Rattle.lock_core.specs.declared.state.LockState.TheInside.{Inside}
use Rattle.lock_core.specs.Facts.{LockFacts}
use Rattle.lock_core.specs.States.{Lock}

-- the state that the fields are
abbrev pub lock_of : Inside → Lock
lock_of state = record { config = state.config; core = state.protocol }

-- The configuration is valid, the five facts hold, the numbers of slots fit 32 bits, and list and counters are those after
-- the journal.
pub record IsLockKept (state : Inside) : Type 0 where
  pub valid : IsValidConfig state.config
  pub facts : LockFacts state.config state.protocol
  pub few : length state.protocol.slots < 2 ^ 32
  pub space : space_of state.list state.counters ≡ after state.config state.protocol.journal
