-- For `sealed_pages_stay`: its goal.
use Rattle.area_rules.proofs.SealedPages.{sealed_stay}
use Rattle.area_rules.proofs.growth_brk_seal_laws.sealed_pages_stay.Goals as goal

pub returns : goal.returns
returns c = sealed_stay
