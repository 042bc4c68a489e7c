-- A state as the fields of its struct have it, and what they keep.
use Rattle.std.specs.Prelude.{◌≡◌, ◌≤◌, ◌^◌, length}
use Rattle.grace_core.specs.declared.protocol.GraceProtocol.TheInside as protocol
use Rattle.grace_core.specs.declared.state.GraceState.TheInside as state
use Rattle.grace_core.specs.Core.{GraceCore}
use Rattle.grace_core.specs.Facts.{GraceFacts}

-- the state that the fields are
abbrev pub grace_core_of : protocol.Inside → GraceCore
grace_core_of fields = record { writer_state = fields.writer_state; pins = fields.pins.items; snapshots = fields.snapshots.items }

-- the facts hold, each reader has a pin, a snapshot or none, and a clearing, and there are few readers
pub record IsGraceKept (fields : state.Inside) : Type 0 where
  pub facts : GraceFacts fields.protocol
  pub pins : length fields.protocol.pins ≡ length fields.protocol.writer_state.clearings
  pub snapshots : length fields.protocol.snapshots ≡ length fields.protocol.writer_state.clearings
  pub few : length fields.protocol.pins ≤ 2 ^ 31
