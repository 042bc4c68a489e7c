-- For `linux_6_1_is_as_recorded`: its goal.
use Rattle.linux_rules.proofs.Linux_6_1.{all_of_linux_6_1}
use Rattle.linux_rules.proofs.recorded.linux_6_1_is_as_recorded.Goals as goal

pub returns : goal.returns
returns c = all_of_linux_6_1
