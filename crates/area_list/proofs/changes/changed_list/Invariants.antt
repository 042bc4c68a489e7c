-- For `changed_list`: what each loop keeps.
use Rattle.std.proofs.Common.{◌≡◌, ◌++◌, flat_map, drop}
use Rattle.area_list.specs.Changes.{parts_changed}
use Rattle.area_list.proofs.changes.changed_list.Given as goal

-- the parts so far, and those of the rest
abbrev pub invariant-loop-area : goal.invariant-loop-area
invariant-loop-area l = l.parts.items ++ flat_map (parts_changed l.change l.span) (drop l.area-index l.areas) ≡ flat_map (parts_changed l.change l.span) l.areas
