-- For `first_bad_line`: its goals.
use Rattle.maps_read.proofs.Bytes.{maps_of-Err}
use Rattle.maps_read.proofs.laws.first_bad_line.Goals as goal

pub returns : goal.returns
returns c = maps_of-Err
