-- A call that a test makes on a table of at most one area, which lies in slot 0.
use Rattle.std.specs.Prelude.{◌≡◌, ◌%◌, [], ◌∷◌, ◌++◌, None}
use Rattle.mm_types.specs.declared.call.Entry.{Entry}
use Rattle.vma_lock.specs.declared.view.View.{View}
use Rattle.fault_path.specs.Internal.Small.{AreOthersDetached}

-- The entry was made: no call is open, it is nobody's turn, and the slots but the first are detached.
pub record IsEntryMade (old new : View) (entry : Entry) : Type 0 where
  pub closed : new.writer_state.seq % 2 ≡ 0
  pub turn : new.turn ≡ None
  pub config : new.config ≡ old.config
  pub free : AreOthersDetached new.writer_state.slots
  pub journal : new.seen ≡ old.seen ++ entry ∷ []
