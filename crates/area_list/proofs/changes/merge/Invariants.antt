-- For `merge`: what each loop keeps.
use Rattle.std.proofs.Common.{◌≡◌, ◌++◌, drop}
use Rattle.area_list.specs.Changes.{merge_from}
use Rattle.area_list.proofs.changes.merge.Given as goal

-- what is merged so far, and the rest merged from the area so far
abbrev pub invariant-loop-next : goal.invariant-loop-next
invariant-loop-next l = l.merged.items ++ merge_from l.first (drop l.next-index l.rest) ≡ merge_from l.initial.first l.rest
