-- What each event of the grace protocol does to a state, and what it finds.
use Rattle.std.specs.Prelude.{ℕ, List, [], ◌∷◌, ◌++◌, length, slice_index, slice_set, Option, Some, None}
use Rattle.grace_core.specs.declared.events.GraceAnswer.{GraceAnswer}
use Rattle.grace_core.specs.declared.events.GraceAnswer.TheVariants as found
use Rattle.grace_core.specs.declared.events.GraceEvent.{GraceEvent}
use Rattle.grace_core.specs.declared.events.GraceEvent.TheVariants.{Open, Root, Word, Close, Fill, Publish, Scan, Split, Join}
use Rattle.grace_core.specs.Core.{GraceCore, GraceTreeView, row_at, root_of, pin_at, snapshot_at, numbers_of}
use Rattle.grace_core.specs.Steps.{turned, filled, published, scanned, split, joined}

-- open: the reader's pin becomes odd
abbrev pub after_open : GraceCore → ℕ → GraceCore
after_open core reader = record core { pins = slice_set core.pins reader (turned (pin_at core.pins reader)) }

-- root: the reader's snapshot is the present tree
abbrev pub after_root : GraceCore → ℕ → GraceCore
after_root core reader = record core { snapshots = slice_set core.snapshots reader (Some core.writer_state.tree) }

-- close: the reader's pin becomes even, and its snapshot ends
abbrev pub after_close : GraceCore → ℕ → GraceCore
after_close core reader = record core {
  pins = slice_set core.pins reader (turned (pin_at core.pins reader));
  snapshots = slice_set core.snapshots reader None;
}

-- fill: the row's word becomes this one
abbrev pub after_fill : GraceCore → ℕ → ℕ → GraceCore
after_fill core row word = record core { writer_state = filled core.writer_state row 0 word }

-- publish: the tree of this number and these rows is present
abbrev pub after_publish : GraceCore → ℕ → List ℕ → GraceCore
after_publish core number rows = record core { writer_state = published core.writer_state number rows }

-- scan: the writer finds the reader's pin
abbrev pub after_scan : GraceCore → ℕ → GraceCore
after_scan core reader = record core { writer_state = scanned core.writer_state reader (pin_at core.pins reader) }

-- split: there is a new reader, closed and never scanned
abbrev pub after_grace_split : GraceCore → GraceCore
after_grace_split core = record { writer_state = split core.writer_state; pins = core.pins ++ 0 ∷ []; snapshots = core.snapshots ++ None ∷ [] }

-- join: the second reader no longer counts
abbrev pub after_grace_join : GraceCore → ℕ → GraceCore
after_grace_join core second = record core { writer_state = joined core.writer_state second }

-- the state after an event that is not refused
abbrev pub after_grace_event : GraceCore → GraceEvent → GraceCore
after_grace_event core (Open reader) = after_open core reader
after_grace_event core (Root reader) = after_root core reader
after_grace_event core (Word reader row) = core
after_grace_event core (Close reader) = after_close core reader
after_grace_event core (Fill row word) = after_fill core row.0 word
after_grace_event core (Publish number rows) = after_publish core number (numbers_of rows)
after_grace_event core (Scan reader) = after_scan core reader
after_grace_event core (Split reader) = after_grace_split core
after_grace_event core (Join first second) = after_grace_join core second

-- the word that a row has in a snapshot
abbrev pub snapshot_word : Option GraceTreeView → ℕ → ℕ
snapshot_word (Some tree) row = slice_index (row_at tree.words row) 0
snapshot_word None row = 0

-- what an event finds that is not refused
abbrev pub grace_answer : GraceCore → GraceEvent → GraceAnswer
grace_answer core (Open reader) = found.Done
grace_answer core (Root reader) = found.Tree core.writer_state.tree.number (record { 0 = root_of core.writer_state.tree })
grace_answer core (Word reader row) = found.Word (snapshot_word (snapshot_at core.snapshots reader) row.0)
grace_answer core (Close reader) = found.Done
grace_answer core (Fill row word) = found.Done
grace_answer core (Publish number rows) = found.Done
grace_answer core (Scan reader) = found.Pin (pin_at core.pins reader)
grace_answer core (Split reader) = found.Made (length core.pins)
grace_answer core (Join first second) = found.Done
