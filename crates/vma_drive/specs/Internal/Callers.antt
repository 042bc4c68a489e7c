-- What is known of a round and of the passes that run it.
use Rattle.std.specs.Prelude.{ℕ, ◌≡◌, ◌<◌, ◌+◌, List, length, slice_get, slice_index, Some, All, Vec}
use Rattle.std.specs.declared.alloc.Global.{Global}
use Rattle.fault_path.specs.Passes.{PassView}
use Rattle.vma_drive.specs.declared.busy.Round.{Round}
use Rattle.vma_drive.specs.Hearing.{own_by}

-- the places of the lines of all callers are among so many
abbrev pub ArePlacesIn : ℕ → List (Vec ℕ Global) → Type 0
ArePlacesIn count places = All (λ own. All (λ place. place < count) own.items) places

-- A round has places and operations for each of these passes, the places are those of lines that have a round, and what a caller has done
-- with what its pass has left makes its operations.
pub record IsRoundOf (round : Round) (passes : List PassView) : Type 0 where
  pub places : length round.places.now ≡ length passes
  pub owed : length round.owed.now ≡ length passes
  pub within : ArePlacesIn (length round.rounds.now) round.places.now
  pub left : (caller : ℕ) (pass : PassView) → slice_get passes caller ≡ Some pass
      → pass.left + length (own_by pass) ≡ slice_index round.owed.now caller
