-- For `seals_and_holes_are_of_pages`: its goals.
use Rattle.area_rules.proofs.SealTests.{sealed_is, hole_is}
use Rattle.area_rules.proofs.growth_brk_seal_laws.seals_and_holes_are_of_pages.Goals as goal

pub returns-clause-sealed : goal.returns-clause-sealed
returns-clause-sealed c = sealed_is

pub returns-clause-hole : goal.returns-clause-hole
returns-clause-hole c = hole_is
