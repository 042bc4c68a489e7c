-- What one pass alone left of a space.
use Rattle.std.specs.Prelude.{ℕ, ◌≡◌, ◌≤◌, List, [], ◌∷◌, ◌++◌, length, All}
use Rattle.mm_types.specs.declared.call.Entry.{Entry}
use Rattle.mm_types.specs.declared.call.Seen.{Seen}
use Rattle.mm_types.specs.declared.config.Config.{Config}
use Rattle.trace_reader.specs.declared.trace.TraceLine.{TraceLine}
use Rattle.area_rules.specs.Journals.{calls_by, version_of, IsReadRight}
use Rattle.area_rules.specs.Steps.{IsLegalJournal}
use Rattle.history.specs.Runs.{own_of, ops_of, asked, HasGrown}
use Rattle.lock_core.specs.Facts.{list_after}
use Rattle.mm_space.specs.Closing.{ClosedView}

-- A closed run of all lines by one pass, whose caller has the number 0, in a space that began with some entries: behind these its own stand,
-- the journal is legal and each touch among its own grew an area, its reads are right and not from before, and nobody else did anything.
pub record RanAlone (config : Config) (before : List Entry) (lines : List TraceLine) (run : ClosedView) : Type 0 where
  pub log : List Seen
  pub own : List Entry
  pub logs : run.logs ≡ log ∷ []
  pub journal : run.journal ≡ before ++ own
  pub legal : IsLegalJournal config (before ++ own)
  pub grown : All HasGrown own
  pub right : All (IsReadRight config (before ++ own)) log
  pub later : All (λ read. length before ≤ version_of read) log
  pub done : ops_of (own_of 0 (before ++ own) log) ≡ asked lines
  pub others : (caller : ℕ) → 1 ≤ caller → calls_by caller own ≡ []
  pub list : run.list ≡ list_after config run.journal
