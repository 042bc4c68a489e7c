-- What the struct shows after a look: `LockProtocol::look`.
use Rattle.std.proofs.Common.{rules, refl, ap, ◌∙◌}
use Rattle.lock_core.specs.Events.{stage_after_look}
use Rattle.lock_core.specs.Internal.Protocols.{lock_core_of}
use Rattle.lock_core.proofs.Viewing.{view_look}
use Rattle.lock_core.proofs.protocol.LockProtocol.look.Goals as goal

pub returns : goal.returns
returns c = rw (← c.self.view_is)
    (view_look (lock_core_of c.self.inside) c.self.inside.readers.items c.args.reader c.looked-stage.result c.len-seen.result refl
    (rw (← c.self.view_is) at (c.looked-stage.ensures ∙ ap (stage_after_look c.args.self.now.seq c.args.self.now.slots) c.stage.ensures))
    (search rules))
