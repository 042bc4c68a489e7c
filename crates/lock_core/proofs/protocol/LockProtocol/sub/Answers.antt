-- What the struct shows after a sub: `LockProtocol::sub`.
use Rattle.std.proofs.Common.{refl}
use Rattle.lock_core.specs.Internal.Protocols.{lock_core_of}
use Rattle.lock_core.proofs.Viewing.{view_sub}
use Rattle.lock_core.proofs.protocol.LockProtocol.sub.Goals as goal

pub returns : goal.returns
returns c = rw (c.saturating_sub.ensures, ← c.self.view_is)
    (view_sub (lock_core_of c.self.inside) c.self.inside.readers.items c.args.reader c.args.slot.0 c.count-count.result c.reader-seen.result
    refl (rw (← c.self.view_is) at c.requires.slot) (rw (← c.self.view_is) at c.count-count.ensures)
    (rw (← c.self.view_is) at c.reader-seen.ensures.reader))
