-- What the loop of `GraceProtocol::new` keeps: no reader so far has a snapshot.
use Rattle.std.proofs.Common.{◌≡◌, replicate, None}
use Rattle.grace_core.proofs.protocol.GraceProtocol.new.Given as goal

abbrev pub invariant-loop : goal.invariant-loop
invariant-loop l = l.snapshots.items ≡ replicate l.counter None
