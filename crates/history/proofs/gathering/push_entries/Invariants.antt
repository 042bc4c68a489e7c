-- For `push_entries`: the items of the entries so far are appended.
use Rattle.std.proofs.Common.{◌≡◌, ◌++◌, take}
use Rattle.history.specs.Runs.{entry_items}
use Rattle.history.proofs.gathering.push_entries.Given as goal

abbrev pub invariant-loop-place : goal.invariant-loop-place
invariant-loop-place l = l.items.items ≡ l.initial.items.items ++ entry_items l.version (take l.place l.entries)
