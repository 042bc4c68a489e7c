-- For `lines_are_read`: its goals.
use Rattle.maps_read.proofs.Bytes.{maps_are_read, maps_in_order}
use Rattle.maps_read.proofs.laws.lines_are_read.Goals as goal

pub returns-clause-read : goal.returns-clause-read
returns-clause-read c = maps_are_read

pub returns-clause-order : goal.returns-clause-order
returns-clause-order c = maps_in_order
