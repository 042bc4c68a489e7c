-- Changes that are carried out together: those that take away areas which adjoin each other.
use Rattle.std.specs.Prelude.{ℕ, ◌≡◌, List, [], ◌∷◌}
use Rattle.lock_core.specs.Core.{detached_row}
use Rattle.split_merge.specs.declared.plan.Change.{Change}
use Rattle.split_merge.specs.declared.plan.Change.TheVariants.{Detach, Alter, Add}
use Rattle.vma_lock.specs.Seats.{WritesVmaTable, lock_sight}
use Rattle.mm_state.specs.declared.store.AreaStore.{AreaStore}
use Rattle.mm_state.specs.Internal.AreaStores.{IsWritten, Carries, after_leaving}

-- all of the changes take areas away, each of which begins where the one before ends, from a page on up to another
abbrev pub IsRunOfRemovals : ℕ → ℕ → List Change → Type 0
IsRunOfRemovals lo hi [] = lo ≡ hi
IsRunOfRemovals lo hi (Detach area ∷ changes) = (area.span.lo ≡ lo) × IsRunOfRemovals area.span.hi hi changes
IsRunOfRemovals lo hi (Alter old new ∷ changes) = ⊥
IsRunOfRemovals lo hi (Add new ∷ changes) = ⊥

-- what changes of a plan leave, as if they were carried out one after the other, from the last on
abbrev pub CarriesAll : AreaStore → AreaStore → List Change → ℕ → Type 0
CarriesAll old new [] tree = new ≡ old
CarriesAll old new (change ∷ changes) tree = (between : AreaStore) × CarriesAll old between changes tree × Carries between new change tree

-- a slot was detached and left with a tree, and all but the writer and the slots is as it was
pub record IsLetGo (old new : AreaStore) (slot tree : ℕ) : Type 0 where
  pub mine : WritesVmaTable new.writer new.table
  pub written : IsWritten (lock_sight old.writer) slot detached_row (lock_sight new.writer)
  pub slots : new.slots ≡ after_leaving old.slots slot tree
  pub same : new ≡ record old { writer = new.writer; slots = new.slots }
