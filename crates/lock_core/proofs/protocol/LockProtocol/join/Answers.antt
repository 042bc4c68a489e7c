-- What the struct shows after a join: `LockProtocol::join`.
use Rattle.std.proofs.Common.{refl}
use Rattle.lock_core.specs.Internal.Protocols.{lock_core_of}
use Rattle.lock_core.proofs.Viewing.{view_join}
use Rattle.lock_core.proofs.protocol.LockProtocol.join.Goals as goal

pub returns : goal.returns
returns c = rw (c.max-seen.ensures, ← c.self.view_is)
    (view_join (lock_core_of c.self.inside) c.self.inside.readers.items c.args.first c.args.second c.reader.result c.reader-2.result c.stage-stage.result refl
    (rw (← c.self.view_is) at c.stage-stage.ensures)
    (rw (← c.self.view_is) at c.reader.ensures.reader) (rw (← c.self.view_is) at c.reader-2.ensures.reader)
    (rw (← c.self.view_is) at c.reader.ensures.seen) (rw (← c.self.view_is) at c.reader-2.ensures.seen))
