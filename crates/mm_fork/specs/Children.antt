-- Child spaces: what a child begins with, whose lines are whose, and the history of a child.
use Rattle.std.specs.Prelude.{ℕ, ◌≡◌, ◌≤◌, ◌+◌, false, List, length, map, take, drop, fold, slice_get, All, Some}
use Rattle.mm_types.specs.declared.call.Entry.{Entry}
use Rattle.mm_types.specs.declared.call.Seen.{Seen}
use Rattle.mm_types.specs.declared.config.Config.{Config}
use Rattle.trace_reader.specs.declared.trace.Trace.{Trace}
use Rattle.trace_reader.specs.declared.trace.TraceLine.{TraceLine}
use Rattle.area_rules.specs.Growing.{grows}
use Rattle.area_rules.specs.Tables.{AddressSpace}
use Rattle.area_rules.specs.Verdicts.{verdict}
use Rattle.area_rules.specs.Steps.{step}
use Rattle.area_rules.specs.Journals.{version_of}
use Rattle.history.specs.declared.callers.TheConstants.{MOST_THREADS}
use Rattle.history.specs.declared.items.Content.{Content}
use Rattle.history.specs.declared.items.Content.TheVariants as contents
use Rattle.history.specs.declared.items.Item.{Item}
use Rattle.history.specs.SpaceLines.{child_lines}
use Rattle.history.specs.Runs.{history_of, IsRun}
use Rattle.mm_fork.specs.Behind.{log_behind}

-- an entry of a parent as its child has it, whose caller is none of the child's
abbrev pub as_inherited : Entry → Entry
as_inherited entry = record entry { caller = entry.caller + MOST_THREADS }

-- what a child begins with that was forked at a version of a journal
abbrev pub inherited : List Entry → ℕ → List Entry
inherited journal version = map as_inherited (take version journal)

-- the history of a child that was forked at a version, by its whole journal and the logs of its callers
abbrev pub child_history_of : ℕ → List Entry → List (List Seen) → List Item
child_history_of version journal logs = history_of (drop version journal) (map (log_behind version) logs)

-- the trace of a child
abbrev pub child_trace : Trace → ℕ → Trace
child_trace trace child = record trace { lines = child_lines trace.lines child }

-- an address space after calls, one after another
abbrev pub space_from : Config → AddressSpace → List Entry → AddressSpace
space_from config space entries = fold (λ space entry. (step config space entry.call).space) space entries

-- a content is right over an address space: it is the reply of the step, the verdict on a fault that does not grow, or the list
abbrev pub IsRightOver : Config → AddressSpace → Content → Type 0
IsRightOver config space (contents.Called call reply) = reply ≡ (step config space call).reply
IsRightOver config space (contents.Fault page access found) = (grows config space.areas page.0 access ≡ false)
    × (found ≡ verdict config space.areas page.0 access)
IsRightOver config space (contents.List areas) = areas ≡ space.areas

-- A finished run of the lines of a child by so many callers, in a space that began with the entries that it inherited: no read is from before
-- the fork, and with versions counted from the fork it is a run behind these entries.
pub record IsChildRun (config : Config) (before : List Entry) (lines : List TraceLine) (callers : ℕ) (own : List Entry) (logs : List (List Seen)) : Type 0 where
  pub later : (caller : ℕ) (log : List Seen) → slice_get logs caller ≡ Some log → All (λ read. length before ≤ version_of read) log
  pub run : IsRun config before lines callers own (map (log_behind (length before)) logs)
