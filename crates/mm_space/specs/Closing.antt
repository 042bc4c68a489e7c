-- What is left of a space once it is closed.
use Rattle.std.specs.Prelude.{ℕ, ◌≡◌, ◌≤◌, List, [], length, map, slice_get, Some, All, AllPairs}
use Rattle.mm_types.specs.declared.area.Record.{Record}
use Rattle.mm_types.specs.declared.call.Entry.{Entry}
use Rattle.mm_types.specs.declared.call.Seen.{Seen}
use Rattle.mm_types.specs.declared.config.Config.{Config}
use Rattle.area_rules.specs.Journals.{calls_by, version_of, IsReadRight}
use Rattle.area_rules.specs.Steps.{IsLegalJournal}
use Rattle.lock_core.specs.Core.{StartsWith}
use Rattle.lock_core.specs.Facts.{list_after}
use Rattle.fault_path.specs.Passes.{PassView, caller, seen_by, made_by}
use Rattle.mm_space.specs.Names.{SpaceId, since}

-- a closed space: the journal of all calls, the reads of each caller, and the list of areas at the end
pub record ClosedView : Type 0 where
  pub journal : List Entry
  pub logs : List (List Seen)
  pub list : List Record

-- A pass lies in a journal: the entries of its caller are just those that it made, what it has seen is a beginning, and its
-- reads are right there, with rising versions.
pub record IsIn (settings : Config) (journal : List Entry) (pass : PassView) : Type 0 where
  pub made : calls_by (caller pass) journal ≡ made_by pass
  pub later : StartsWith journal (seen_by pass)
  pub right : All (IsReadRight settings journal) pass.log
  pub rises : AllPairs (λ earlier later. version_of earlier ≤ version_of later) pass.log

-- Closing a space with these passes leaves a legal journal that begins with the entries from before, in which each of them lies and
-- behind which nobody else has an entry, the list after it, and the log of each pass in its place.
pub record Closes (name : SpaceId) (passes : List PassView) (closed : ClosedView) : Type 0 where
  pub begins : StartsWith closed.journal name.before
  pub legal : IsLegalJournal name.config closed.journal
  pub list : closed.list ≡ list_after name.config closed.journal
  pub logs : closed.logs ≡ map (λ pass. pass.log) passes
  pub each : (place : ℕ) (pass : PassView) → slice_get passes place ≡ Some pass → IsIn name.config closed.journal pass
  pub others : (other : ℕ) → length passes ≤ other → calls_by other (since name.before closed.journal) ≡ []
