-- The summary of a generated trace.
use Rattle.std.specs.Prelude.{ℕ, Bool, true, false, List, ◌++◌, length, codes, decimal, count_by}
use Rattle.mm_types.specs.declared.area.Verdict.{Verdict}
use Rattle.mm_types.specs.declared.area.Verdict.TheVariants as verdicts
use Rattle.mm_types.specs.declared.config.Config.{Config}
use Rattle.area_rules.specs.Steps.{after}
use Rattle.area_rules.specs.Tables.{is_refusal}
use Rattle.history.specs.declared.items.Content.{Content}
use Rattle.history.specs.declared.items.Content.TheVariants as contents
use Rattle.history.specs.declared.items.Item.{Item}
use Rattle.history.specs.Histories.{is_call, journal_of, serial_history}
use Rattle.trace_reader.specs.declared.trace.Trace.{Trace}
use Rattle.gen_load.specs.Loads.{load_trace}
use Rattle.vma_replay.specs.declared.summary.Summary.{Summary}

-- whether a fault was served, by an area
abbrev pub is_service : Verdict → Bool
is_service (verdicts.Served area index) = true
is_service verdicts.MapErr = false
is_service verdicts.AccErr = false
is_service verdicts.BusErr = false

-- whether it is a call that was refused
abbrev pub is_refused : Content → Bool
is_refused (contents.Called call reply) = is_refusal reply
is_refused (contents.Fault page access verdict) = false
is_refused (contents.List areas) = false

-- whether it is a fault
abbrev pub is_fault : Content → Bool
is_fault (contents.Called call reply) = false
is_fault (contents.Fault page access verdict) = true
is_fault (contents.List areas) = false

-- whether it is a fault that was served
abbrev pub is_served : Content → Bool
is_served (contents.Called call reply) = false
is_served (contents.Fault page access verdict) = is_service verdict
is_served (contents.List areas) = false

-- of how many items of a history this is true
unfoldable pub count_of : (Content → Bool) → List Item → ℕ
count_of is items = count_by (λ item. is item.content) items

-- the summary of a history: how often each of these happened, and the version and the number of areas that all its calls lead to
abbrev pub summary_of : Config → List Item → Summary
summary_of config items = record {
  calls = count_of is_call items;
  refused = count_of is_refused items;
  faults = count_of is_fault items;
  served = count_of is_served items;
  version = length (journal_of items);
  areas = length (after config (journal_of items)).areas;
}

-- six lines, each with a name and a number
unfoldable pub text_of_summary : Summary → List ℕ
text_of_summary summary = codes "calls " ++ (decimal summary.calls
    ++ (codes "\nrefused " ++ (decimal summary.refused
    ++ (codes "\nfaults " ++ (decimal summary.faults
    ++ (codes "\nserved " ++ (decimal summary.served
    ++ (codes "\nversion " ++ (decimal summary.version
    ++ (codes "\nareas " ++ (decimal summary.areas ++ codes "\n")))))))))))

-- the summary of a trace that runs in the order of its lines
abbrev pub summary_of_trace : Trace → Summary
summary_of_trace trace = summary_of trace.config (serial_history trace.config trace.lines)

-- the text of the summary of the generated trace of so many operations and a seed
unfoldable pub summary_text : ℕ → ℕ → List ℕ
summary_text count seed = text_of_summary (summary_of_trace (load_trace count seed))
