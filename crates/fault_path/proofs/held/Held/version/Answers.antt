-- For `Held::version`: the area that is held is one of the list.
use Rattle.std.proofs.Common.{subst}
use Rattle.fault_path.specs.Faults.{IsMember}
use Rattle.fault_path.specs.Holding.{HeldView}
use Rattle.fault_path.proofs.held.Held.version.Goals as goal

pub returns-clause-member : goal.returns-clause-member
returns-clause-member c = subst (λ (held : HeldView). IsMember held.area held.pass) c.self.view_is c.self.invariant.locked.member
