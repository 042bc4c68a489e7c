-- What the struct shows after an add: `LockProtocol::add`.
use Rattle.std.proofs.Common.{refl, ap}
use Rattle.lock_core.specs.Internal.Protocols.{lock_core_of}
use Rattle.lock_core.proofs.Viewing.{view_add}
use Rattle.lock_core.proofs.protocol.LockProtocol.add.Goals as goal

pub returns : goal.returns
returns c = rw (← c.self.view_is)
    (view_add (lock_core_of c.self.inside) c.self.inside.readers.items c.args.reader c.args.slot.0 c.slot-found.result.lock_seq c.count-count.result c.reader-seen.result
    refl (rw (← c.self.view_is) at (ap (λ s. s.lock_seq) c.slot-found.ensures)) (rw (← c.self.view_is) at c.count-count.ensures)
    (rw (← c.self.view_is) at c.reader-seen.ensures.reader))
