-- Which events are refused, and why.
use Rattle.std.specs.Prelude.{ℕ, ◌+◌, Bool, false, not, ◌||◌, if◌then◌else◌, nat_eq, nat_lt, List, [], ◌∷◌, find, is_some, unwrap_or, Option, Some, None}
use Rattle.mm_types.specs.declared.slot.Row.{Row}
use Rattle.mm_types.specs.Rows.{first_row}
use Rattle.grace_core.specs.declared.events.GraceEvent.{GraceEvent}
use Rattle.grace_core.specs.declared.events.GraceEvent.TheVariants.{Open, Root, Word, Close, Fill, Publish}
use Rattle.grace_core.specs.declared.events.GraceRefusal.{GraceRefusal}
use Rattle.grace_core.specs.declared.events.GraceRefusal.TheVariants.{NotOpen, RowNotFree, RowNotShown, WrongTree, AlreadyOpen}
use Rattle.grace_core.specs.Core.{GraceCore, WriterState, GraceTreeView, times, has_row, pin_at, snapshot_at, is_free_row, is_open, numbers_of}

-- whether an event needs its reader open, and it is closed
abbrev pub lacks_open : GraceCore → GraceEvent → Bool
lacks_open core (Root reader) = not (is_open (pin_at core.pins reader))
lacks_open core (Word reader row) = not (is_open (pin_at core.pins reader))
lacks_open core (Close reader) = not (is_open (pin_at core.pins reader))
lacks_open core _ = false

-- whether an event opens a reader that is open
abbrev pub opens_again : GraceCore → GraceEvent → Bool
opens_again core (Open reader) = is_open (pin_at core.pins reader)
opens_again core _ = false

-- the tree that an event publishes, where its number is not the next one
abbrev pub wrong_tree : GraceCore → GraceEvent → Option ℕ
wrong_tree core (Publish number rows) = if nat_eq number (core.writer_state.tree.number + 1) then None else Some number
wrong_tree core _ = None

-- whether a row can't be published in a list of rows: it is neither free nor of the present tree, or is listed twice
abbrev pub is_unfit : WriterState → List ℕ → ℕ → Bool
is_unfit writer_state rows row = not (is_free_row writer_state row || has_row writer_state.tree row) || nat_lt 1 (times row rows)

-- the row of a fill, where it is not free, or the first row of a publish that can't be published
abbrev pub row_not_free : GraceCore → GraceEvent → Option Row
row_not_free core (Fill row word) = if is_free_row core.writer_state row.0 then None else Some row
row_not_free core (Publish number rows) = find (λ row. is_unfit core.writer_state (numbers_of rows) row.0) rows
row_not_free core _ = None

-- whether a snapshot has a row
abbrev pub shows : Option GraceTreeView → ℕ → Bool
shows (Some tree) row = has_row tree row
shows None row = false

-- the row whose word a reader loads, where the reader's snapshot doesn't have it
abbrev pub row_not_shown : GraceCore → GraceEvent → Option Row
row_not_shown core (Word reader row) = if shows (snapshot_at core.snapshots reader) row.0 then None else Some row
row_not_shown core _ = None

-- why an event is refused, by the first line whose test holds; none where it is not refused
unfoldable pub grace_refusal : GraceCore → GraceEvent → Option GraceRefusal
grace_refusal core event = first_row (
    (lacks_open core event, NotOpen)
    ∷ (opens_again core event, AlreadyOpen)
    ∷ (is_some (wrong_tree core event), WrongTree (unwrap_or (wrong_tree core event) 0))
    ∷ (is_some (row_not_free core event), RowNotFree (unwrap_or (row_not_free core event) (record { 0 = 0 })))
    ∷ (is_some (row_not_shown core event), RowNotShown (unwrap_or (row_not_shown core event) (record { 0 = 0 })))
    ∷ [])
