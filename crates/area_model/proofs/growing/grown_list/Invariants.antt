-- For `grown_list`: what its loop keeps.
use Rattle.std.proofs.Common.{◌≡◌, map, take}
use Rattle.area_rules.specs.Growing.{grown_at}
use Rattle.area_model.proofs.growing.grown_list.Given as goal

-- the areas so far, grown
abbrev pub invariant-loop-area : goal.invariant-loop-area
invariant-loop-area l = l.grown.items ≡ map (grown_at l.page) (take l.area-index l.areas)
