-- For `retraced_front_is_enough`: its goal.
use Rattle.maps_read.proofs.Fronts.{retraced-front}
use Rattle.maps_read.proofs.retrace_laws.retraced_front_is_enough.Goals as goal

pub returns : goal.returns
returns c = retraced-front
