-- The lock of an area in one slot. A view of a reader before the call is `old`, and one after it is `new`.
use Rattle.std.specs.Prelude.{ℕ, ◌≡◌, true, List, Contains, Some}
use Rattle.mm_types.specs.declared.area.Record.{Record}
use Rattle.mm_types.specs.Packed.{unpacked}
use Rattle.area_list.specs.Areas.{IsSound}
use Rattle.area_rules.specs.Journals.{calls_by}
use Rattle.area_rules.specs.Steps.{IsLegalJournal}
use Rattle.lock_core.specs.Core.{StartsWith}
use Rattle.lock_core.specs.Facts.{list_after}
use Rattle.maple_read.specs.Walks.{shown_slot}
use Rattle.vma_lock.specs.declared.view.View.{View}
use Rattle.vma_lock.specs.Seats.{is_validated, row_of}
use Rattle.node_slots.specs.declared.view.ShownTree.{ShownTree}
use Rattle.node_slots.specs.declared.view.NodeView.{NodeView}
use Rattle.fault_path.specs.declared.fast.Miss.{Miss}
use Rattle.fault_path.specs.declared.fast.Miss.TheVariants.{NoArea, Marked, Elsewhere}
use Rattle.fault_path.specs.Faults.{TriesOnce, ReadsSlot, Lacks, HoldsPage}

-- What a reader keeps as it goes on: whose seat it is, its table's configuration, its turn, and that what it has seen is a legal
-- journal. It has seen what it had seen, and no new entry of the caller whose turn it has.
pub record GoesOn (old new : View) : Type 0 where
  pub caller : new.caller ≡ old.caller
  pub config : new.config ≡ old.config
  pub turn : new.turn ≡ old.turn
  pub legal : IsLegalJournal old.config old.seen → IsLegalJournal new.config new.seen
  pub later : StartsWith new.seen old.seen
  pub own : (caller : ℕ) → old.turn ≡ Some caller → calls_by caller new.seen ≡ calls_by caller old.seen

-- An area is locked: the reader holds a validated slot whose row holds the area, which is one of the sound list after all that
-- the reader has seen.
pub record IsLocked (area : Record) (view : View) : Type 0 where
  pub valid : is_validated view.stage ≡ true
  pub holds : unpacked (row_of view.stage) ≡ Some area
  pub sound : IsSound view.config (list_after view.config view.seen)
  pub member : Contains (list_after view.config view.seen) area

-- The tree of the walker's snapshot, which it has until its pin is closed, pairs this slot with the page.
pub record IsPairedNow (page slot : ℕ) (walker : NodeView) : Type 0 where
  pub shown : ShownTree
  pub snapshot : walker.snapshot ≡ Some shown
  pub pair : shown_slot page shown ≡ Some slot

-- a slot was validated, and its row holds this area, which has the page
pub record LocksSlot (slot page : ℕ) (area : Record) (old new : View) : Type 0 where
  pub row : List ℕ
  pub reads : ReadsSlot slot row old new
  pub holds : HoldsPage page row area

-- why a slot was not locked: it was marked, or it was validated, but its row lacks the page
abbrev pub MissesSlot : ℕ → ℕ → View → View → Miss → Type 0
MissesSlot slot page old new (NoArea tree) = ⊥
MissesSlot slot page old new (Marked seq) = TriesOnce slot seq seq 0 old new
MissesSlot slot page old new (Elsewhere row) = ReadsSlot slot row old new × Lacks page row
