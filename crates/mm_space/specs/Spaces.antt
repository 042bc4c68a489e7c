-- What the operations of a space make of a pass.
use Rattle.std.specs.Prelude.{ℕ, ◌≡◌, ◌+◌, ◌⊎◌, true, false, List, [], ◌∷◌, ◌++◌, length}
use Rattle.mm_types.specs.declared.area.Access.{Access}
use Rattle.mm_types.specs.declared.area.Record.{Record}
use Rattle.mm_types.specs.declared.area.Verdict.{Verdict}
use Rattle.mm_types.specs.declared.area.Verdict.TheVariants.{Served}
use Rattle.mm_types.specs.declared.call.Call.{Call}
use Rattle.mm_types.specs.declared.call.Call.TheVariants.{Touch}
use Rattle.mm_types.specs.declared.call.Entry.{Entry}
use Rattle.mm_types.specs.declared.call.Reply.{Reply}
use Rattle.mm_types.specs.declared.call.Reply.TheVariants.{Grown}
use Rattle.mm_types.specs.declared.call.Seen.{Seen}
use Rattle.mm_types.specs.declared.call.Seen.TheVariants.{Fault}
use Rattle.mm_types.specs.declared.area.Page.{Page}
use Rattle.area_rules.specs.Growing.{grows}
use Rattle.area_rules.specs.Verdicts.{verdict}
use Rattle.lock_core.specs.Facts.{list_after}
use Rattle.area_rules.specs.Journals.{version_of, calls_by, IsReadRight}
use Rattle.area_rules.specs.Steps.{IsLegalJournal}
use Rattle.lock_core.specs.Core.{StartsWith}
use Rattle.lock_core.specs.Events.{longer}
use Rattle.fault_path.specs.declared.fast.Miss.{Miss}
use Rattle.lock_core.specs.declared.stage.Stage.TheVariants.{Out}
use Rattle.vma_lock.specs.declared.seats.ReaderSeat.{ReaderSeat}
use Rattle.vma_lock.specs.Seats.{lock_view, seen, stage, HasTurn}
use Rattle.vma_lock.specs.Views.{look_at}
use Rattle.fault_path.specs.Passes.{PassView, IsLater, caller, pass_config, seen_by, made_by, looks_of, walker}
use Rattle.fault_path.specs.Faults.{IsAnswer, Misses}
use Rattle.mm_space.specs.Names.{SpaceId}
use Rattle.mm_space.specs.declared.space.Faulted.{Faulted}
use Rattle.mm_space.specs.declared.space.Found.{Found}
use Rattle.mm_space.specs.declared.space.Found.TheVariants.{Answered, Entered}
use Rattle.mm_space.specs.declared.space.Path.{Path}
use Rattle.mm_space.specs.declared.space.Path.TheVariants.{Fast, Slow}

-- the entry of a pass's caller
abbrev pub entry_by : PassView → Call → Reply → Entry
entry_by pass made answer = record { caller = caller pass; call = made; reply = answer }

-- One call was entered: the journal as the pass has now seen it ends with this entry, at this place, and all that it had seen
-- lies before it. Of its caller's entries this one is new, and one operation was taken.
pub record Calls (old new : PassView) (made : Call) (answer : Reply) (place : ℕ) : Type 0 where
  pub before : List Entry
  pub later : StartsWith before (seen_by old)
  pub seen : seen_by new ≡ before ++ entry_by old made answer ∷ []
  pub version : place ≡ length (seen_by new)
  pub own : made_by new ≡ made_by old ++ entry_by old made answer ∷ []
  pub log : new.log ≡ old.log
  pub left : new.left + 1 ≡ old.left

-- One read was made: it is the last of the log, at the version of all that the pass has now seen, and right there. Its caller
-- made no entry, and one operation was taken.
pub record Reads (old new : PassView) (read : Seen) : Type 0 where
  pub log : new.log ≡ old.log ++ read ∷ []
  pub version : version_of read ≡ length (seen_by new)
  pub right : IsReadRight (pass_config new) (seen_by new) read
  pub own : made_by new ≡ made_by old
  pub left : new.left + 1 ≡ old.left

-- nothing was done but a look: no read, no entry, and no operation was taken
pub record DoesNothing (old new : PassView) : Type 0 where
  pub log : new.log ≡ old.log
  pub own : made_by new ≡ made_by old
  pub left : new.left ≡ old.left
  pub looks : looks_of new ≡ looks_of old + 1

-- a pass told what it has seen: one operation was taken, and nothing else changed
pub record Tells (old new : PassView) : Type 0 where
  pub seen : seen_by new ≡ seen_by old
  pub log : new.log ≡ old.log
  pub own : made_by new ≡ made_by old
  pub left : new.left + 1 ≡ old.left
  pub looks : looks_of new ≡ looks_of old
  pub walker : walker new ≡ walker old
  pub takes : new.takes ≡ old.takes

-- A pass heard a note of this list: it has then seen the longer of both, which this list begins, and nothing else changed.
pub record Hears (old : PassView) (told : List Entry) (new : PassView) : Type 0 where
  pub seen : seen_by new ≡ longer (seen_by old) told
  pub begins : StartsWith (seen_by new) told
  pub log : new.log ≡ old.log
  pub own : made_by new ≡ made_by old
  pub left : new.left ≡ old.left
  pub looks : looks_of new ≡ looks_of old
  pub walker : walker new ≡ walker old
  pub takes : new.takes ≡ old.takes

-- a seat looked once, and took no other step
abbrev pub LooksOnce : ReaderSeat → ReaderSeat → Type 0
LooksOnce old new = (found : ℕ) × (lock_view new ≡ look_at (lock_view old) found (seen new) Out)

-- A seat with the turn of its caller has met the state of a space, whose journal these entries began: it has seen the whole journal, by
-- one look more, and has its turn again. What it had seen lies before that, and no entry behind it there is of its caller.
pub record MeetsState (name : SpaceId) (before journal : List Entry) (old new : ReaderSeat) : Type 0 where
  pub table : new.seat.table_id ≡ name.table
  pub legal : IsLegalJournal name.config journal
  pub all : seen new ≡ journal
  pub same : ((lock_view new).caller ≡ (lock_view old).caller) × ((lock_view new).config ≡ (lock_view old).config)
  pub turn : HasTurn new
  pub free : stage new ≡ Out
  pub looks : (lock_view new).trace.looks ≡ (lock_view old).trace.looks + 1
  pub look : LooksOnce old new
  pub later : StartsWith before (seen old)
  pub own : calls_by (lock_view old).caller before ≡ calls_by (lock_view old).caller (seen old)

-- A fault missed without the lock, for this cause, and then its seat looked once more, under the lock, and took no other step.
pub record MissesFirst (page : ℕ) (miss : Miss) (old new : PassView) : Type 0 where
  pub between : PassView
  pub missed : Misses page old between miss
  pub later : IsLater between new
  pub look : LooksOnce between.reader new.reader
  pub walker : walker new ≡ walker between

-- the way of a fault: it was answered without the lock, or it missed first
abbrev pub IsWay : ℕ → Access → PassView → PassView → Verdict → ℕ → Path → Type 0
IsWay page access old new answer version Fast = IsAnswer page access answer version old new
IsWay page access old new answer version (Slow miss) = MissesFirst page miss old new

-- how often a fault takes the mmap lock on its way
abbrev pub takes_on : Path → ℕ
takes_on Fast = 0
takes_on (Slow miss) = 1

-- One fault grew an area: where the list before its entry grows at the page, the touch is entered, which replies with the area as it
-- is then, and this area serves the fault at its first page. It had missed without the lock.
pub record Grows (page : Page) (access : Access) (old new : PassView) (done : Faulted) : Type 0 where
  pub area : Record
  pub call : Calls old new (Touch page access) (Grown area 0) done.version
  pub grows : grows (pass_config old) (list_after (pass_config old) call.before) page.0 access ≡ true
  pub verdict : done.verdict ≡ Served area 0
  pub slow : (miss : Miss) × (done.path ≡ Slow miss)

-- what a fault left: it is in the log, or it grew an area and its touch is in the journal
abbrev pub IsFaultDone : Page → Access → PassView → PassView → Faulted → Type 0
IsFaultDone page access old new done = Reads old new (Fault done.version page access done.verdict) ⊎ Grows page access old new done

-- A fault that grows no area was answered, and is not in the log yet: its verdict is that over the list after all that the pass has
-- then seen, and nothing else was done but that the lock may have been taken.
pub record Answers (page : Page) (access : Access) (old new : PassView) (done : Faulted) : Type 0 where
  pub same : new ≡ record old { reader = new.reader; nodes = new.nodes; takes = new.takes }
  pub own : made_by new ≡ made_by old
  pub version : done.version ≡ length (seen_by new)
  pub still : grows (pass_config new) (list_after (pass_config new) (seen_by new)) page.0 access ≡ false
  pub verdict : done.verdict ≡ verdict (pass_config new) (list_after (pass_config new) (seen_by new)) page.0 access

-- what was found for a fault: an answer that is not in the log yet, or an area that it grew
abbrev pub FindsPage : Page → Access → PassView → PassView → Found → Type 0
FindsPage page access old new (Answered done) = Answers page access old new done
FindsPage page access old new (Entered done) = Grows page access old new done

-- what it is told as
abbrev pub faulted_of : Found → Faulted
faulted_of (Answered done) = done
faulted_of (Entered done) = done
