-- For `cut`: what each loop keeps.
use Rattle.std.proofs.Common.{◌≡◌, ◌++◌, drop}
use Rattle.area_list.specs.Changes.{cut}
use Rattle.area_list.proofs.changes.cut.Given as goal

-- the parts so far, and what the rest is cut to
abbrev pub invariant-loop-area : goal.invariant-loop-area
invariant-loop-area l = l.parts.items ++ cut l.span (drop l.area-index l.areas) ≡ cut l.span l.areas
