-- For `mseal_seals_the_range`: its goals.
use Rattle.area_rules.proofs.Sealing.{sealed_page_map, sealed_mapped, mseal_kept, sealed_unique}
use Rattle.area_rules.proofs.growth_brk_seal_laws.mseal_seals_the_range.Goals as goal

pub returns-clause-pages : goal.returns-clause-pages
returns-clause-pages c = sealed_page_map

pub returns-clause-mapped : goal.returns-clause-mapped
returns-clause-mapped c = sealed_mapped

pub returns-clause-kept : goal.returns-clause-kept
returns-clause-kept c = mseal_kept

pub returns-clause-only : goal.returns-clause-only
returns-clause-only c = sealed_unique
