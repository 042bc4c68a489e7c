-- For `sound_lists_go_on`: its goal.
use Rattle.maps_read.proofs.Following.{may_follow-sound}
use Rattle.maps_read.proofs.retrace_laws.sound_lists_go_on.Goals as goal

pub returns : goal.returns
returns c = may_follow-sound
