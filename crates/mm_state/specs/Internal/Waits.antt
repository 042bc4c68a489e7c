-- Why a call waits.
use Rattle.std.specs.Prelude.{ℕ, ◌≡◌, ◌<◌, ◌+◌}
use Rattle.lock_core.specs.Core.{slot_at}
use Rattle.vma_lock.specs.declared.view.View.{View}
use Rattle.vma_lock.specs.Kept.{free_mark}
use Rattle.vma_lock.specs.Views.{try_at}

-- a try to mark a slot found that so many readers hold it, and nothing else changed
abbrev pub FoundReaders : View → ℕ → View → Type 0
FoundReaders old slot new = (readers : ℕ) × (0 < readers) × (new ≡ try_at old slot (free_mark (slot_at old.writer_state.slots slot) + readers))
