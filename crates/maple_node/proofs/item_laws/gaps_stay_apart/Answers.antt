-- For the law `gaps_stay_apart`.
use Rattle.maple_node.proofs.Gaps.{stored-apart, widened}
use Rattle.maple_node.proofs.item_laws.gaps_stay_apart.Goals as goal

pub returns-clause-slot : goal.returns-clause-slot
returns-clause-slot c = stored-apart

pub returns-clause-low : goal.returns-clause-low
returns-clause-low c lo hi entries ascends apart some within = (widened lo hi entries ascends apart some within).down

pub returns-clause-high : goal.returns-clause-high
returns-clause-high c lo hi entries ascends apart some within = (widened lo hi entries ascends apart some within).up

pub returns-clause-limit : goal.returns-clause-limit
returns-clause-limit c lo hi entries ascends apart some within = (widened lo hi entries ascends apart some within).limit

pub returns-clause-gap : goal.returns-clause-gap
returns-clause-gap c lo hi entries ascends apart some within = (widened lo hi entries ascends apart some within).apart

pub returns-clause-pairs : goal.returns-clause-pairs
returns-clause-pairs c lo hi entries ascends apart some within = (widened lo hi entries ascends apart some within).pairs
