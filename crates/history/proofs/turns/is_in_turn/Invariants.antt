-- For `is_in_turn`: the places of what is left do not fall below the last exactly where those of all do not fall.
use Rattle.std.proofs.Common.{drop, ◌↔◌}
use Rattle.mm_types.proofs.Sorting.{Rises}
use Rattle.history.specs.Labels.{labelled}
use Rattle.history.specs.Runs.{place_key}
use Rattle.history.proofs.turns.is_in_turn.Given as goal

abbrev pub invariant-loop-line : goal.invariant-loop-line
invariant-loop-line l =
    Rises place_key l.last (labelled l.lines (drop l.line-index l.lines) l.turns) ↔ Rises place_key 0 (labelled l.lines l.lines l.fn.turns)
