-- What the struct shows after an end: `LockProtocol::end`.
use Rattle.lock_core.proofs.Viewing.{readers-push}
use Rattle.lock_core.proofs.protocol.LockProtocol.end.Goals as goal

pub returns : goal.returns
returns c = rw (c.in_ok-push.ensures.items, ← c.self.view_is)
    (let same = readers-push c.self.inside.journal.items c.args.entry c.self.inside.readers.items c.self.invariant in cc)
