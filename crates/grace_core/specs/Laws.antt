-- What follows from the definitions and the facts.
use Rattle.std.specs.Prelude.{ℕ, ◌≡◌, ◌≢◌, ◌≤◌, ◌<◌, ◌⊎◌, true, false, not, Some}
use Rattle.grace_core.specs.declared.events.GraceEvent.{GraceEvent}
use Rattle.grace_core.specs.declared.events.GraceEvent.TheVariants.{Publish}
use Rattle.grace_core.specs.Core.{GraceCore, WriterState, GraceTreeView, numbers_of, times, has_row, since_at, clearing_at, snapshot_at, is_free_row, waits, is_open, Exists}
use Rattle.grace_core.specs.Steps.{turned, scanned}
use Rattle.grace_core.specs.Events.{after_grace_event}
use Rattle.grace_core.specs.Facts.{WriterFacts, GraceFacts}

-- a pin that turns becomes another one, odd where it was even and even where it was odd
abbrev pub PinsTurn : Type 0
PinsTurn = (pin : ℕ) → (is_open (turned pin) ≡ not (is_open pin)) × (turned pin ≢ pin)

-- a row is of the present tree, free or waiting
abbrev pub RowsStand : Type 0
RowsStand = (writer_state : WriterState) (row : ℕ) → (has_row writer_state.tree row ≡ true) ⊎ ((is_free_row writer_state row ≡ true) ⊎ (waits writer_state row ≡ true))

-- and only one of these
pub record StandsOnce (writer_state : WriterState) (row : ℕ) : Type 0 where
  pub of_the_tree : has_row writer_state.tree row ≡ true → (is_free_row writer_state row ≡ false) × (waits writer_state row ≡ false)
  pub free : is_free_row writer_state row ≡ true → waits writer_state row ≡ false

-- no row of a snapshot is free, so no row that a reader may still read is filled
abbrev pub SnapshotsStay : Type 0
SnapshotsStay = (core : GraceCore) (reader : ℕ) (tree : GraceTreeView) (row : ℕ) → GraceFacts core → snapshot_at core.snapshots reader ≡ Some tree
    → has_row tree row ≡ true → is_free_row core.writer_state row ≡ false

-- a row that is not of the present tree is free once every reader is cleared up to the tree that left it out
abbrev pub RowsBecomeFree : Type 0
RowsBecomeFree = (writer_state : WriterState) (row : ℕ) → WriterFacts writer_state → has_row writer_state.tree row ≡ false
    → ((reader : ℕ) → Exists writer_state.clearings reader → since_at writer_state.since row ≤ (clearing_at writer_state.clearings reader).cleared) → is_free_row writer_state row ≡ true

-- an event lists a row
abbrev pub Lists : GraceEvent → ℕ → Type 0
Lists (Publish number rows) row = 0 < times row (numbers_of rows)
Lists _ row = ⊥

-- a free row stays free until a publish lists it
abbrev pub FreeRowsStay : Type 0
FreeRowsStay = (core : GraceCore) (event : GraceEvent) (row : ℕ) → is_free_row core.writer_state row ≡ true → (Lists event row → ⊥)
    → is_free_row (after_grace_event core event).writer_state row ≡ true

-- the tree up to which a reader is cleared never falls
abbrev pub ClearingsRise : Type 0
ClearingsRise = (writer_state : WriterState) (reader found other : ℕ) → WriterFacts writer_state
    → (clearing_at writer_state.clearings other).cleared ≤ (clearing_at (scanned writer_state reader found).clearings other).cleared
