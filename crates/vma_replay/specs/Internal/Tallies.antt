-- What is counted of a closed run.
use Rattle.std.specs.Prelude.{[], length, count_by, slice_get, unwrap_or}
use Rattle.history.specs.Runs.{content_of}
use Rattle.mm_space.specs.Closing.{ClosedView}
use Rattle.vma_replay.specs.declared.summary.Summary.{Summary}
use Rattle.area_rules.specs.Tables.{is_refusal}
use Rattle.vma_replay.specs.Summaries.{is_fault, is_served}

-- the summary of a closed run by one caller
abbrev pub tally_of : ClosedView → Summary
tally_of run = record {
  calls = length run.journal;
  refused = count_by (λ entry. is_refusal entry.reply) run.journal;
  faults = count_by (λ read. is_fault (content_of read)) (unwrap_or (slice_get run.logs 0) []);
  served = count_by (λ read. is_served (content_of read)) (unwrap_or (slice_get run.logs 0) []);
  version = length run.journal;
  areas = length run.list;
}
