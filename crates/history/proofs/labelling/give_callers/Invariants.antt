-- For `give_callers`: the items so far have the callers of their lines.
use Rattle.std.proofs.Common.{◌≡◌, ◌++◌, take, drop}
use Rattle.history.specs.Labels.{labelled}
use Rattle.history.proofs.labelling.give_callers.Given as goal

abbrev pub invariant-loop-place : goal.invariant-loop-place
invariant-loop-place l = l.items.items ≡ labelled l.lines (take l.place l.lines) l.initial.items.items ++ drop l.place l.initial.items.items
