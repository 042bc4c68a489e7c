-- For `of_words`: so many readers were made, and each is of the table and has its turn.
use Rattle.std.proofs.Common.{◌≡◌, ℕ, length, slice_get, Some}
use Rattle.vma_lock.specs.declared.seats.ReaderSeat.{ReaderSeat as Reader}
use Rattle.vma_lock.specs.Views.{opened_lock_view, new_lock_reader}
use Rattle.vma_lock.specs.Seats.{IsOfVmaTable, WritesVmaTable, lock_view, lock_sight}
use Rattle.vma_lock.proofs.seats.VmaTable.of_words.Given as goal

abbrev pub invariant-loop-caller : goal.invariant-loop-caller
invariant-loop-caller l = record {
  table : WritesVmaTable l.writer l.table;
  writer : lock_sight l.writer ≡ opened_lock_view l.fn.config l.caller;
  count : length l.seats.items ≡ l.caller;
  fresh : (caller : ℕ) (seat : Reader) → slice_get l.seats.items caller ≡ Some seat
      → IsOfVmaTable seat l.table × (lock_view seat ≡ new_lock_reader (opened_lock_view l.fn.config caller));
}
