-- Areas that are held.
use Rattle.std.specs.Prelude.{ℕ, ◌≡◌, true}
use Rattle.mm_types.specs.declared.area.Record.{Record}
use Rattle.mm_types.specs.Config.{IsValidConfig}
use Rattle.area_list.specs.Areas.{has_page}
use Rattle.atomic_table.specs.Seated.{TableId}
use Rattle.vma_lock.specs.Seats.{lock_view}
use Rattle.fault_path.specs.Passes.{PassView, KeepsPass, IsLater, pass_config, made_by, walker}
use Rattle.fault_path.specs.Faults.{WalksOnce, IsFound, IsMember}
use Rattle.fault_path.specs.Locking.{IsLocked}

-- a held area as contracts see it: the area, and the pass that is kept for it
pub record HeldView : Type 0 where
  pub area : Record
  pub pass : PassView

-- What a held area keeps: the pass is of the table in which the area is locked, of a valid configuration, and keeps what a pass keeps.
pub record IsAreaHeld (table : TableId) (held : HeldView) (reserved : ℕ) : Type 0 where
  pub table_is : held.pass.reader.seat.table_id ≡ table
  pub valid : IsValidConfig (pass_config held.pass)
  pub locked : IsLocked held.area (lock_view held.pass.reader)
  pub keeps : KeepsPass held.pass reserved

-- A pass went on in a call that read nothing into its log, took no operation and didn't take the mmap lock: it has seen what it
-- had seen, and no new entry of its caller.
pub record StaysAlike (old new : PassView) : Type 0 where
  pub later : IsLater old new
  pub log : new.log ≡ old.log
  pub left : new.left ≡ old.left
  pub own : made_by new ≡ made_by old
  pub takes : new.takes ≡ old.takes

-- An area was locked by one walk: it was found at the page in the call, has the page, and is one of the list after all of the
-- journal that the pass has seen.
pub record Locks (page : ℕ) (old : PassView) (held : HeldView) : Type 0 where
  pub alike : StaysAlike old held.pass
  pub walk : WalksOnce (walker old) (walker held.pass)
  pub found : IsFound page held.area (lock_view old.reader) (lock_view held.pass.reader) (walker held.pass)
  pub has : has_page held.area.span page ≡ true
  pub member : IsMember held.area held.pass
