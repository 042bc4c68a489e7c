-- For `linux_7_2_is_as_recorded`: its goal.
use Rattle.linux_rules.proofs.Linux_7_2.{all_of_linux_7_2}
use Rattle.linux_rules.proofs.recorded.linux_7_2_is_as_recorded.Goals as goal

pub returns : goal.returns
returns c = all_of_linux_7_2
