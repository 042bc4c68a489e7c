-- What each step of the grace protocol does to what the writer knows.
use Rattle.std.specs.Prelude.{ℕ, ◌+◌, ◌%◌, ◌^◌, min, max, Bool, if◌then◌else◌, not, ◌&&◌, nat_eq, List, [], ◌∷◌, ◌++◌, slice_set, false, true}
use Rattle.grace_core.specs.declared.clearing.Clearing.{Clearing}
use Rattle.grace_core.specs.Core.{GraceTreeView, WriterState, has_row, row_at, clearing_at, is_outside}

-- a pin after its reader opened or closed
abbrev pub turned : ℕ → ℕ
turned pin = (pin + 1) % 2 ^ 64

-- the greatest tree, up to this one, up to which every reader is cleared that was not joined away
abbrev pub cleared_up_to : ℕ → List Clearing → ℕ
cleared_up_to number [] = number
cleared_up_to number (clearing ∷ clearings) = if clearing.joined then cleared_up_to number clearings else min clearing.cleared (cleared_up_to number clearings)

-- the grace period of a tree has passed once every reader is cleared up to it
abbrev pub elapsed : WriterState → WriterState
elapsed writer_state = record writer_state { passed = max writer_state.passed (cleared_up_to writer_state.tree.number writer_state.clearings) }

-- fill: a word of a row becomes this one
abbrev pub filled : WriterState → ℕ → ℕ → ℕ → WriterState
filled writer_state row place word = record writer_state { words = slice_set writer_state.words row (slice_set (row_at writer_state.words row) place word) }

-- the tree that a publish makes present
abbrev pub next_tree : WriterState → ℕ → List ℕ → GraceTreeView
next_tree writer_state number rows = record { number = number; rows = rows; words = writer_state.words }

-- whether a new tree leaves a row of the old one out
abbrev pub leaves_out : GraceTreeView → GraceTreeView → ℕ → Bool
leaves_out old new row = has_row old row && not (has_row new row)

-- from a row on, the tree whose publish left each row out last, once the new one is published: a row that it leaves out waits since
-- then, and any other as before
abbrev pub since_from : ℕ → GraceTreeView → GraceTreeView → List ℕ → List ℕ
since_from row old new [] = []
since_from row old new (since ∷ others) = (if leaves_out old new row then new.number else since) ∷ since_from (row + 1) old new others

-- the writer's state at which another tree is present
abbrev pub with_tree : WriterState → GraceTreeView → WriterState
with_tree writer_state tree = record writer_state { tree = tree; since = since_from 0 writer_state.tree tree writer_state.since }

-- publish: the tree of this number and these rows is present, and the rows that it leaves out wait
abbrev pub published : WriterState → ℕ → List ℕ → WriterState
published writer_state number rows = elapsed (with_tree writer_state (next_tree writer_state number rows))

-- The tree up to which a scan that finds this pin clears a reader. A reader that is outside has passed a quiescent state: it is
-- cleared up to the present tree. One that is inside, but with another pin than at the last scan, has passed one since that scan: it
-- is cleared up to the tree that was present then. Any other is cleared as far as it was.
abbrev pub cleared_by : ℕ → ℕ → Clearing → ℕ
cleared_by number found clearing =
    if is_outside found then number else (if nat_eq found clearing.pin then clearing.cleared else clearing.tree)

-- what the scans of a reader found, with one that finds this pin
abbrev pub cleared_by_scan : ℕ → ℕ → Clearing → Clearing
cleared_by_scan number found clearing = record clearing { cleared = cleared_by number found clearing; pin = found; tree = number }

-- the writer's state at which this was found of a reader
abbrev pub with_clearing : WriterState → ℕ → Clearing → WriterState
with_clearing writer_state reader clearing = record writer_state { clearings = slice_set writer_state.clearings reader clearing }

-- scan: the writer finds a reader's pin, which may clear the reader, and rows may become free
abbrev pub scanned : WriterState → ℕ → ℕ → WriterState
scanned writer_state reader found = elapsed (with_clearing writer_state reader (cleared_by_scan writer_state.tree.number found (clearing_at writer_state.clearings reader)))

-- a reader that was never scanned
abbrev pub new_clearing : Clearing
new_clearing = record { cleared = 0; pin = 0; tree = 0; joined = false }

-- split: there is one reader more
abbrev pub split : WriterState → WriterState
split writer_state = record writer_state { clearings = writer_state.clearings ++ new_clearing ∷ [] }

-- join: a reader no longer counts, and rows may become free
abbrev pub joined : WriterState → ℕ → WriterState
joined writer_state reader = elapsed (with_clearing writer_state reader (record (clearing_at writer_state.clearings reader) { joined = true }))
