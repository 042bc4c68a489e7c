-- What each row is used for, as the protocol itself tells it, and how each event changes that.
use Rattle.std.specs.Prelude.{ℕ, ◌≡◌, Bool, true, false, ◌||◌, if◌then◌else◌, nat_eq, nat_lt, nat_le, List, None}
use Rattle.std.specs.List.{list_all}
use Rattle.grace_core.specs.declared.clearing.Clearing.{Clearing}
use Rattle.grace_core.specs.declared.events.GraceEvent.{GraceEvent}
use Rattle.grace_core.specs.declared.events.GraceEvent.TheVariants.{Publish, Scan, Join}
use Rattle.grace_core.specs.Core.{GraceCore, WriterState, times, has_row, since_at, numbers_of}
use Rattle.grace_core.specs.Events.{after_grace_event, after_scan, after_grace_join}
use Rattle.grace_core.specs.Facts.{GraceFacts}
use Rattle.grace_core.specs.Refusals.{grace_refusal}
use Rattle.grace_core.specs.States.{opening_writer_state}

-- a row is of the present tree, or free, or waits since the tree whose publish left it out
pub data RowUse : Type 0 where
  Present : RowUse
  Free : RowUse
  Waits : ℕ → RowUse

-- the use of a row, by what the writer knows
abbrev pub use_of : WriterState → ℕ → RowUse
use_of writer_state row = if has_row writer_state.tree row then RowUse.Present
    else (if nat_le (since_at writer_state.since row) writer_state.passed then RowUse.Free else RowUse.Waits (since_at writer_state.since row))

-- whether every reader that was not joined away is cleared up to a tree or a later one
abbrev pub all_cleared : List Clearing → ℕ → Bool
all_cleared clearings tree = list_all (λ clearing. clearing.joined || nat_le tree clearing.cleared) clearings

-- a row that waits becomes free once they are
abbrev pub reclaimed : List Clearing → RowUse → RowUse
reclaimed clearings RowUse.Present = RowUse.Present
reclaimed clearings RowUse.Free = RowUse.Free
reclaimed clearings (RowUse.Waits tree) = if all_cleared clearings tree then RowUse.Free else RowUse.Waits tree

-- a publish of this number makes a row that it lists one of the present tree, and a row of the tree before that it doesn't list wait
abbrev pub published_use : ℕ → Bool → RowUse → RowUse
published_use number true was = RowUse.Present
published_use number false RowUse.Present = RowUse.Waits number
published_use number false RowUse.Free = RowUse.Free
published_use number false (RowUse.Waits tree) = RowUse.Waits tree

-- the use of a row after an event: a publish, a scan and a join change it, and no other
abbrev pub use_after : GraceCore → GraceEvent → ℕ → RowUse → RowUse
use_after core (Publish number rows) row was =
    reclaimed core.writer_state.clearings (published_use number (nat_lt 0 (times row (numbers_of rows))) was)
use_after core (Scan reader) row was = reclaimed (after_scan core reader).writer_state.clearings was
use_after core (Join first second) row was = reclaimed (after_grace_join core second).writer_state.clearings was
use_after core _ row was = was

-- each event changes the uses of the rows so
abbrev pub UsesChange : Type 0
UsesChange = (core : GraceCore) (event : GraceEvent) (row : ℕ) → GraceFacts core → grace_refusal core event ≡ None
    → use_of (after_grace_event core event).writer_state row ≡ use_after core event row (use_of core.writer_state row)

-- at first row 0 is of the present tree, and each other row is free
abbrev pub UsesBegin : Type 0
UsesBegin = (readers rows row : ℕ) → use_of (opening_writer_state readers rows) row ≡ (if nat_eq row 0 then RowUse.Present else RowUse.Free)
