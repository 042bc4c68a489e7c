-- For `retraced_maps_are_within`: its goal.
use Rattle.maps_read.proofs.Fronts.{retraced-within}
use Rattle.maps_read.proofs.retrace_laws.retraced_maps_are_within.Goals as goal

pub returns : goal.returns
returns c = retraced-within
