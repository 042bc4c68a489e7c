-- For `narrow_placement`: its goals.
use Rattle.area_rules.proofs.Narrow.{place-zero, none_high, narrow_place}
use Rattle.area_rules.proofs.placement_laws.narrow_placement.Goals as goal

pub returns-clause-unhinted : goal.returns-clause-unhinted
returns-clause-unhinted c = place-zero

pub returns-clause-none_high : goal.returns-clause-none_high
returns-clause-none_high c = none_high

pub returns-clause-narrow : goal.returns-clause-narrow
returns-clause-narrow c = narrow_place
