-- For `retraced_text_makes_the_maps`: its goal.
use Rattle.maps_read.proofs.Made.{makes}
use Rattle.maps_read.proofs.retrace_laws.retraced_text_makes_the_maps.Goals as goal

pub returns : goal.returns
returns c = makes
