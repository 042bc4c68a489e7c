-- What the fields of a `Progress` keep.
use Rattle.std.specs.Prelude.{◌≡◌, ◌<◌, length, All}
use Rattle.trace_reader.specs.Values.{AreNumbered}
use Rattle.history.specs.declared.callers.TheConstants.{MOST_THREADS}
use Rattle.history.specs.declared.progress.Progress.TheInside.{Inside}
use Rattle.history.specs.CallerPlaces.{ArePlaces}
use Rattle.history.specs.Coming.{ProgressView}
use Rattle.history.specs.Threads.{counts_below}

-- what contracts see of the fields
abbrev pub progress_of : Inside → ProgressView
progress_of fields = record {
  lines = fields.lines.now;
  answered = fields.answered.items;
  version = fields.version;
  lowest = fields.lowest;
}

-- the lines are numbered and of the callers, whose places are theirs, and one count is kept for each caller
pub record IsPlaced (fields : Inside) : Type 0 where
  pub threads : All (λ line. line.thread < MOST_THREADS) fields.lines.now
  pub numbered : AreNumbered fields.lines.now
  pub counted : fields.callers ≡ counts_below MOST_THREADS fields.lines.now
  pub places : ArePlaces fields.lines.now (length fields.answered.items) fields.places.items
