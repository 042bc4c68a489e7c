-- The proof of `PlainSpace::within`: no area is mapped, and the files are numbered.
use Rattle.std.proofs.Common.{ap}
use Rattle.area_rules.specs.Tables.{AddressSpace}
use Rattle.plain_space.specs.Stored.{Stored}
use Rattle.plain_space.specs.Plain.{PlainView}
use Rattle.sys_calls.proofs.Keeping.{opened_space}
use Rattle.plain_space.proofs.space.PlainSpace.within.Goals as goal

pub returns : goal.returns
returns c =
    let opened : AddressSpace → PlainView = λ space. record { config = c.args.config.now; space = space } in
    ap opened (opened_space c.args.config.now c.restart.new.self.list c.opening.result (ap (λ (s : Stored). s.list) c.restart.ensures) c.opening.ensures)
